-- What the operations enclose: the exact outcome, at every unit point, for every kind, method and order. Assumes nothing.
use Rattle.std.specs.Prelude.{◌≡◌, ℕ, ◌<◌, ◌≤◌, List, length, get_or, Ok, slice_index_or, Float}
use Rattle.rational.specs.Fraction.{Fraction, whole, per, powᶠ, ◌+ᶠ◌, ◌-ᶠ◌, ◌*ᶠ◌, ◌=ᶠ◌}
use Rattle.interval.specs.declared.marks.Interval.{Interval}
use Rattle.interval.specs.declared.variable.Variable.{Variable}
use Rattle.interval.specs.Interval.{Fits, ◌within◌}
use Rattle.interval.specs.Hull.{value, hull}
use Rattle.interval.specs.Kind.{KindMeaning}
use Rattle.polynomial.specs.Value.{Units}
use Rattle.polynomial.specs.Method.{MethodMeaning, Polynomial}
use Rattle.taylor.specs.Box.{InBox, units}
use Rattle.taylor.specs.Model.{Model, full_range}
use Rattle.taylor.specs.Arithmetic.{constant, variable_model, sum, difference}
use Rattle.taylor.specs.Product.{Worked, product, times_worked, power}
use Rattle.taylor.specs.Selection.{Selects, Encloses, marks}

-- at the unit coordinates us, the model selects x units
abbrev pub Carries : KindMeaning → List Fraction → Model → Fraction → Type 0
Carries k us M x = Selects us M (marks k.scale x)

-- ---- what is selected is enclosed, and lies in the range with the remainder
pub record SelectionEncloses (us : List Fraction) : Type 0 where
  pub encloses : (M : Model) (x : Fraction) → Selects us M x → Encloses us M x
  pub ranges : (m : MethodMeaning) (M : Model) (x : Fraction) → Units us → Polynomial M.terms → Selects us M x → x within full_range m M
  pub equals : (M : Model) (x y : Fraction) → x =ᶠ y → Selects us M x → Selects us M y

-- ---- each operation carries the exact outcome of what its operands carry
pub record OperationsCarry (k : KindMeaning) (m : MethodMeaning) (order : ℕ) (us : List Fraction) : Type 0 where
  pub intervals : (i : Interval) (x : Fraction) → Fits i → x within i → Selects us (constant k i) x
  pub constants : (x : Float) → Fits (hull k.scale x) → Carries k us (constant k (hull k.scale x)) (value x)
  pub sums : (M N R : Model) (x y : Fraction) → Carries k us M x → Carries k us N y → sum M N ≡ Ok R → Carries k us R (x +ᶠ y)
  pub differences : (M N R : Model) (x y : Fraction) → Carries k us M x → Carries k us N y → difference M N ≡ Ok R → Carries k us R (x -ᶠ y)
  pub products : (M N R : Model) (x y : Fraction) → Polynomial M.terms → Polynomial N.terms → Carries k us M x → Carries k us N y →
      product k m order M N ≡ Ok R → Carries k us R (x *ᶠ y)
  pub worked_products : (w v : Worked) (N : Model) (x y : Fraction) → Polynomial w.model.terms → Polynomial N.terms → Carries k us w.model x → Carries k us N y →
      times_worked k m order w N ≡ Ok v → Carries k us v.model (x *ᶠ y)
  pub powers : (n : ℕ) (M : Model) (w : Worked) (x : Fraction) → Polynomial M.terms → Carries k us M x →
      power k m order n M ≡ Ok w → Carries k us w.model (powᶠ x n)

abbrev pub ArithmeticEncloses : Type 0
ArithmeticEncloses = (k : KindMeaning) (m : MethodMeaning) (order : ℕ) (us : List Fraction) → Units us → SelectionEncloses us × OperationsCarry k m order us

-- ---- a point of a box of at most six variables, and its unit coordinates
pub record PointHolds (box : List Variable) (point : List Fraction) : Type 0 where
  pub coordinates : Units (units box point)
  pub marks_are : (n : ℕ) (d : Variable) (p u : Fraction) → n < length box → let v = get_or box n d in
      get_or point n p =ᶠ whole v.centre +ᶠ whole v.half *ᶠ get_or (units box point) n u
  pub variables : (n : ℕ) (d : Variable) (p : Fraction) → n < length box → length box ≤ 6 → Selects (units box point) (variable_model n (slice_index_or box n d)) (slice_index_or point n p)
  pub in_units : (k : KindMeaning) (n : ℕ) (d : Variable) (p : Fraction) → n < length box → length box ≤ 6 →
      Carries k (units box point) (variable_model n (slice_index_or box n d)) (per (slice_index_or point n p) k.scale)

abbrev pub PointsHold : Type 0
PointsHold = (box : List Variable) (point : List Fraction) → InBox box point → PointHolds box point
