-- What intervals promise: hulls are nearest and keep the order, and every operation encloses the exact one. Assumes nothing.
use Rattle.std.specs.Prelude.{◌≡◌, ℕ, ◌<◌, true, ℤ, ◌≤ℤ◌, Float}
use Rattle.std.specs.Float.Ieee.{le}
use Rattle.std.specs.Float.{float_is_finite}
use Rattle.rational.specs.Fraction.{Fraction, whole, over, negᶠ, ◌+ᶠ◌, ◌-ᶠ◌, ◌*ᶠ◌, ◌≤ᶠ◌, ◌=ᶠ◌}
use Rattle.rational.specs.Laws.{UnitNumber, UnitPart}
use Rattle.interval.specs.declared.marks.Interval.{Interval}
use Rattle.interval.specs.Interval.{Fits, plus, minus, negated, meet, times, even_reach, full_reach, ◌within◌}
use Rattle.interval.specs.Hull.{value, in_marks, hull}
use Rattle.interval.specs.Kind.{KindMeaning}

-- ---- hulls
-- the hull holds the value in marks
abbrev pub HullHolds : Type 0
HullHolds = (S : ℕ) (x : Float) → in_marks S x within hull S x

-- its lower end is the greatest whole number that is not above the value, its upper end the least that is not below
abbrev pub HullNearest : Type 0
HullNearest = (S : ℕ) (x : Float) (k : ℤ) →
    (whole k ≤ᶠ in_marks S x → k ≤ℤ (hull S x).lower) × (in_marks S x ≤ᶠ whole k → (hull S x).upper ≤ℤ k)

-- the order of finite binary64 values is the order of their exact values
abbrev pub OrderExact : Type 0
OrderExact = (x y : Float) → float_is_finite x ≡ true → float_is_finite y ≡ true → (le x y ≡ true → value x ≤ᶠ value y) × (value x ≤ᶠ value y → le x y ≡ true)

-- hulls keep that order
abbrev pub HullMonotone : Type 0
HullMonotone = (S : ℕ) (x y : Float) → float_is_finite x ≡ true → float_is_finite y ≡ true → le x y ≡ true →
    ((hull S x).lower ≤ℤ (hull S y).lower) × ((hull S x).upper ≤ℤ (hull S y).upper)

-- ---- arithmetic
abbrev pub SumEncloses : Type 0
SumEncloses = (i j : Interval) (x y : Fraction) → x within i → y within j → (x +ᶠ y) within plus i j

abbrev pub DifferenceEncloses : Type 0
DifferenceEncloses = (i j : Interval) (x y : Fraction) → x within i → y within j → (x -ᶠ y) within minus i j

abbrev pub NegationEncloses : Type 0
NegationEncloses = (i : Interval) (x : Fraction) → x within i → negᶠ x within negated i

-- the product of two numbers of marks, over the marks of a unit
abbrev pub ProductEncloses : Type 0
ProductEncloses = (S : ℕ) (above : 0 < S) (i j : Interval) (x y : Fraction) → x within i → y within j → over (x *ᶠ y) S above within times S i j

-- what lies in both lies in their meet
abbrev pub MeetEncloses : Type 0
MeetEncloses = (i j : Interval) (x : Fraction) → x within i → x within j → x within meet i j

-- ---- reaches
abbrev pub EvenReachEncloses : Type 0
EvenReachEncloses = (i : Interval) (v m : Fraction) → v within i → UnitPart m → (v *ᶠ m) within even_reach i

abbrev pub FullReachEncloses : Type 0
FullReachEncloses = (i : Interval) (v m : Fraction) → v within i → UnitNumber m → (v *ᶠ m) within full_reach i

-- ---- splits
-- v is a number of the coefficient plus a number of the leftover
pub record Selected (v : Fraction) (parts : Interval × Interval) : Type 0 where
  pub coefficient : Fraction
  pub leftover : Fraction
  pub in_coefficient : coefficient within parts.0
  pub in_leftover : leftover within parts.1
  pub total : v =ᶠ (coefficient +ᶠ leftover)

-- so it is for every number of an interval that fits, for any kind
abbrev pub SplitSelects : Type 0
SplitSelects = (k : KindMeaning) (i : Interval) (v : Fraction) → Fits i → v within i → Selected v (k.split i)
