-- The laws of enclosure at fractions, each read off the rational numbers. Assumes nothing.
use Rattle.std.proofs.Common.{◌≡◌, pos, ◌≤ℤ◌, sym, ◌∙◌, ap₂, inl, inr, arith}
use borrow.Author.Differences.{ints}
use Rattle.std.proofs.lemmas.Bool.Decides.{nat_tests}
use Rattle.rational.specs.Fraction.{Fraction, whole, ◌+ᶠ◌, ◌-ᶠ◌, ◌*ᶠ◌}
use Rattle.rational.proofs.Rational.{⟦◌⟧, ◌-ℚ◌, of, of_is, add_is, sub_is, mul_is, neg_is_f, over_is, eq_out, le_in}
use Rattle.rational.specs.Laws.{UnitPart}
use Rattle.rational.proofs.Powers.{Partial}
use Rattle.rational.proofs.Order.{≤ℚ_total}
use Rattle.rational.proofs.Laws.{unit_in}
use Rattle.interval.specs.declared.marks.Interval.{Interval}
use Rattle.interval.specs.Interval.{interval, plus, ◌within◌}
use Rattle.interval.specs.Hull.{in_marks, hull}
use Rattle.interval.specs.Enclosure.{HullHolds, HullNearest, OrderExact, HullMonotone, SumEncloses, DifferenceEncloses, NegationEncloses, ProductEncloses, MeetEncloses, EvenReachEncloses, FullReachEncloses, Selected, SplitSelects}
use Rattle.interval.proofs.Enclosure.{inside_of, within_of, inside-sum, inside-negated, inside-meet, inside-product, hull-holds, upper-rest, lower-rest}
use Rattle.interval.proofs.Rounding.{floor_greatest, ceil_least}
use Rattle.interval.proofs.Reaching.{reach-even, reach-full}
use Rattle.interval.proofs.Orders.{le_flips, value_le, le_value, hull_mono}

-- ---- hulls
pub holds : HullHolds
unfolding hull
holds S x = hull-holds (in_marks S x)

pub nearest : HullNearest
unfolding hull
nearest S x k =
    let v = in_marks S x in (
      λ h. floor_greatest v.num v.den v.above (omega (arith, ints)),
      λ h. ceil_least v.num v.den v.above (omega (arith, ints)),
    )

pub exact : OrderExact
exact x y p q = (λ h. value_le x y p q (grind (arith, nat_tests, le_flips x y p q)), λ h. le_flips x y p q ∙ grind (arith, nat_tests, le_value x y p q h))

pub monotone : HullMonotone
monotone S x y p q h = hull_mono S x y ((exact x y p q).0 h)

-- ---- arithmetic
pub sums : SumEncloses
sums i j x y h k = within_of (rw add_is at (inside-sum (inside_of h) (inside_of k)))

pub negations : NegationEncloses
negations i x h = within_of (rw neg_is_f at (inside-negated (inside_of h)))

pub differences : DifferenceEncloses
differences i j x y h k = within_of (rw (neg_is_f, add_is) at (inside-sum (inside_of h) (inside-negated (inside_of k))))

pub products : ProductEncloses
products S above i j x y h k = within_of (inside-product S above (inside_of h) (inside_of k) (over_is (x *ᶠ y) S above ∙ sym (mul_is x y)))

pub meets : MeetEncloses
meets i j x h k = within_of (inside-meet (inside_of h) (inside_of k))

-- ---- reaches
part_in : {m : Fraction} → UnitPart m → Partial ⟦ m ⟧
part_in {m} U = record { low = rw of_is (le_in (whole (pos 0)) m U.low); high = rw of_is (le_in m (whole (pos 1)) U.high) }

pub even_reaches : EvenReachEncloses
even_reaches i v m h U = within_of (rw mul_is at (reach-even (inside_of h) (part_in U)))

pub full_reaches : FullReachEncloses
full_reaches i v m h U = within_of (rw mul_is at (reach-full (inside_of h) (unit_in U)))

-- ---- splits
-- a number that lies in a sum of intervals is a sum of numbers of each
select : (C L : Interval) (v : Fraction) → C.lower ≤ℤ C.upper → L.lower ≤ℤ L.upper → v within plus C L → Selected v (C, L)
select C L v c l V = elim (≤ℚ_total (of C.upper) (⟦ v ⟧ -ℚ of L.lower)) [
  | inl p ↦
      let s = upper-rest C L ⟦ v ⟧ c (inside_of V) p in
      let x = whole C.upper in
      let y = v -ᶠ whole C.upper in
      record { coefficient = x; leftover = y; in_coefficient = within_of (rw of_is at s.0); in_leftover = within_of (rw (of_is, sub_is) at s.1); total = eq_out v (x +ᶠ y) (rw (of_is, sub_is, add_is) at s.2) }
  | inr p ↦
      let s = lower-rest C L ⟦ v ⟧ l (inside_of V) p in
      let x = v -ᶠ whole L.lower in
      let y = whole L.lower in
      record { coefficient = x; leftover = y; in_coefficient = within_of (rw (of_is, sub_is) at s.0); in_leftover = within_of (rw of_is at s.1); total = eq_out v (x +ᶠ y) (rw (of_is, sub_is, add_is) at s.2) }
]

pub splits_select : SplitSelects
splits_select k i v f h =
    let s = k.splits i f in
    let e : plus (k.split i).0 (k.split i).1 ≡ i = ap₂ interval s.lower s.upper in
    select (k.split i).0 (k.split i).1 v s.coefficient.order s.leftover.order (rw e h)
