-- Whichever number each coefficient stands for, its product with the monomial lies between those of the two ends.
-- Assumes nothing.
use Rattle.std.proofs.Common.{◌≡◌, Bool, true, false, cond, List, [], ◌∷◌, pos, ◌*ℤ◌, refl, arith}
use lib.Signed.{le_z}
use borrow.Author.Differences.{ints}
use Rattle.rational.specs.Fraction.{Fraction, whole, ◌+ᶠ◌, ◌*ᶠ◌, ◌≤ᶠ◌, minᶠ, maxᶠ}
use Rattle.rational.proofs.Rational.{⟦◌⟧, ◌≤ℚ◌, le_in, le_out, add_is, mul_is, of_is}
use Rattle.rational.proofs.Order.{≤ℚ_refl, ≤ℚ_add, slide_low, slide_high}
use Rattle.interval.specs.Interval.{◌within◌}
use Rattle.interval.proofs.Enclosure.{inside_of, within_of}
use Rattle.polynomial.specs.declared.term.Term.{Term}
use Rattle.polynomial.specs.Value.{monomial_value, lower_times, upper_times, lower_value, upper_value, value_with}
use Rattle.polynomial.specs.Laws.{ValuesBetween, ReachEncloses, JointEncloses}
use Rattle.polynomial.proofs.Reaches.{unit, reach-holds}
use Rattle.polynomial.proofs.Joint.{inside-joint}

-- the lesser and the greater of two fractions
min_le : (a b : Fraction) → (⟦ minᶠ a b ⟧ ≤ℚ ⟦ a ⟧) × (⟦ minᶠ a b ⟧ ≤ℚ ⟦ b ⟧)
min_le a b = go (le_z (a.num *ℤ pos b.den) (b.num *ℤ pos a.den)) refl
  where
    go : (t : Bool) → le_z (a.num *ℤ pos b.den) (b.num *ℤ pos a.den) ≡ t → (⟦ cond t a b ⟧ ≤ℚ ⟦ a ⟧) × (⟦ cond t a b ⟧ ≤ℚ ⟦ b ⟧)
    go true e = (≤ℚ_refl ⟦ a ⟧, le_in a b (omega (arith, ints)))
    go false e = (le_in b a (omega (arith, ints)), ≤ℚ_refl ⟦ b ⟧)

max_ge : (a b : Fraction) → (⟦ a ⟧ ≤ℚ ⟦ maxᶠ a b ⟧) × (⟦ b ⟧ ≤ℚ ⟦ maxᶠ a b ⟧)
max_ge a b = go (le_z (a.num *ℤ pos b.den) (b.num *ℤ pos a.den)) refl
  where
    go : (t : Bool) → le_z (a.num *ℤ pos b.den) (b.num *ℤ pos a.den) ≡ t → (⟦ a ⟧ ≤ℚ ⟦ cond t b a ⟧) × (⟦ b ⟧ ≤ℚ ⟦ cond t b a ⟧)
    go true e = (le_in a b (omega (arith, ints)), ≤ℚ_refl ⟦ b ⟧)
    go false e = (≤ℚ_refl ⟦ a ⟧, le_in b a (omega (arith, ints)))

-- one term
term-low : (us : List Fraction) (t : Term) (c : Fraction) → c within t.coefficient → ⟦ minᶠ (lower_times us t) (upper_times us t) ⟧ ≤ℚ ⟦ c *ᶠ monomial_value us t.monomial ⟧
term-low us t c h =
    let i = inside_of h in
    let m = monomial_value us t.monomial in
    let e = min_le (lower_times us t) (upper_times us t) in
    rw (← mul_is c m) (slide_low ⟦ m ⟧ i.low i.high (rw (of_is t.coefficient.lower, mul_is (whole t.coefficient.lower) m) e.0) (rw (of_is t.coefficient.upper, mul_is (whole t.coefficient.upper) m) e.1))

term-high : (us : List Fraction) (t : Term) (c : Fraction) → c within t.coefficient → ⟦ c *ᶠ monomial_value us t.monomial ⟧ ≤ℚ ⟦ maxᶠ (lower_times us t) (upper_times us t) ⟧
term-high us t c h =
    let i = inside_of h in
    let m = monomial_value us t.monomial in
    let e = max_ge (lower_times us t) (upper_times us t) in
    rw (← mul_is c m) (slide_high ⟦ m ⟧ i.low i.high (rw (of_is t.coefficient.lower, mul_is (whole t.coefficient.lower) m) e.0) (rw (of_is t.coefficient.upper, mul_is (whole t.coefficient.upper) m) e.1))

sum_le : (a b c d : Fraction) → ⟦ a ⟧ ≤ℚ ⟦ b ⟧ → c ≤ᶠ d → a +ᶠ c ≤ᶠ b +ᶠ d
sum_le a b c d h k = le_out (a +ᶠ c) (b +ᶠ d) (rw (← add_is a c, ← add_is b d) (≤ℚ_add h (le_in c d k)))

pub values_between : ValuesBetween
unfolding lower_value upper_value
values_between us [] [] h = (omega (arith, ints), omega (arith, ints))
values_between us [] (t ∷ ts) h = absurd h
values_between us (c ∷ cs) [] h = absurd h
values_between us (c ∷ cs) (t ∷ ts) h =
    let rest = values_between us cs ts h.1 in
    let v = c *ᶠ monomial_value us t.monomial in (
      sum_le (minᶠ (lower_times us t) (upper_times us t)) v (lower_value us ts) (value_with us cs ts) (term-low us t c h.0) rest.0,
      sum_le v (maxᶠ (lower_times us t) (upper_times us t)) (value_with us cs ts) (upper_value us ts) (term-high us t c h.0) rest.1,
    )

-- reaches and joint ranges, at fractions
pub reach-encloses : ReachEncloses
reach-encloses us U m i v h = within_of (rw (← mul_is v (monomial_value us m)) (reach-holds us U m (inside_of h)))

pub joint-encloses : JointEncloses
joint-encloses a b u h =
    within_of (rw (← add_is (whole a *ᶠ (u *ᶠ u)) (whole b *ᶠ u), ← mul_is (whole a) (u *ᶠ u), ← mul_is u u, ← mul_is (whole b) u, ← of_is a, ← of_is b) (inside-joint a b (unit h)))
