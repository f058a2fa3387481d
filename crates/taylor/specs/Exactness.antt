-- The whole kind works exactly: points stay points, and nothing is left over. Assumes nothing.
use Rattle.std.specs.Prelude.{◌≡◌, ℕ, true, List, ℤ, Ok, Float}
use Rattle.std.specs.List.{AllByRecursion}
use Rattle.rational.specs.Fraction.{Fraction, whole, ◌=ᶠ◌}
use Rattle.interval.specs.declared.marks.Interval.{Interval}
use Rattle.interval.specs.declared.variable.Variable.{Variable}
use Rattle.interval.specs.Interval.{Fits, zero_interval}
use Rattle.interval.specs.Hull.{value, hull}
use Rattle.interval.specs.Kind.{KindMeaning}
use Rattle.interval.specs.NamedKinds.{point_split}
use Rattle.polynomial.specs.Value.{lower_value, upper_value}
use Rattle.polynomial.specs.Method.{MethodMeaning}
use Rattle.taylor.specs.Model.{Model}
use Rattle.taylor.specs.Arithmetic.{constant, variable_model, sum, difference}
use Rattle.taylor.specs.Product.{Worked, all_kept, product, product_pairs, times_worked, power}
use Rattle.taylor.specs.Selection.{Selects}

-- a mark is a unit, and every interval that fits is split at its lower end
pub record Whole (k : KindMeaning) : Type 0 where
  pub unit : k.scale ≡ 1
  pub points : (i : Interval) → Fits i → k.split i ≡ point_split i

-- one number
abbrev pub Point : Interval → Type 0
Point i = i.lower ≡ i.upper

-- every coefficient is one number, and nothing is left over
pub record Pointed (M : Model) : Type 0 where
  pub coefficients : AllByRecursion (λ t. Point t.coefficient) M.terms
  pub remainder : M.remainder ≡ zero_interval

-- both ends of the polynomial's value are x
pub record Exact (us : List Fraction) (M : Model) (x : Fraction) : Type 0 where
  pub low : lower_value us M.terms =ᶠ x
  pub high : upper_value us M.terms =ᶠ x

-- a model of points selects only its exact value
abbrev pub PointsExact : Type 0
PointsExact = (us : List Fraction) (M : Model) (x : Fraction) → Pointed M → Selects us M x → Exact us M x

-- ---- what keeps points: all that cuts no pair
pub record PointsKept (k : KindMeaning) (m : MethodMeaning) (order : ℕ) : Type 0 where
  pub intervals : (i : Interval) → Fits i → Point i → Pointed (constant k i)
  pub constants : (x : Float) (z : ℤ) → value x =ᶠ whole z → Fits (hull k.scale x) → Pointed (constant k (hull k.scale x))
  pub variables : (n : ℕ) (v : Variable) → Pointed (variable_model n v)
  pub sums : (M N R : Model) → Pointed M → Pointed N → sum M N ≡ Ok R → Pointed R
  pub differences : (M N R : Model) → Pointed M → Pointed N → difference M N ≡ Ok R → Pointed R
  pub products : (M N R : Model) → Pointed M → Pointed N → all_kept order (product_pairs k M N) ≡ true → product k m order M N ≡ Ok R → Pointed R
  pub worked_products : (w v : Worked) (N : Model) → Pointed w.model → Pointed N → times_worked k m order w N ≡ Ok v → v.clean ≡ true → Pointed v.model
  pub powers : (n : ℕ) (M : Model) (w : Worked) → Pointed M → power k m order n M ≡ Ok w → w.clean ≡ true → Pointed w.model

abbrev pub WholeExact : Type 0
WholeExact = (k : KindMeaning) (m : MethodMeaning) (order : ℕ) → Whole k → PointsKept k m order
