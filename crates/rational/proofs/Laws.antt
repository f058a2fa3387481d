-- The laws of fractions, each read off the rational numbers. Assumes nothing.
use mathlib.Core.Path.{sym, ◌∙◌, ap}
use mathlib.Core.Logic.{inl, inr}
use Prim.Native.Nat.{◌*◌}
use lib.IntN.{ℤ, pos, negsuc}
use Rattle.rational.specs.Fraction.{Fraction, whole, over, powᶠ, ◌+ᶠ◌, ◌-ᶠ◌, ◌*ᶠ◌, ◌≤ᶠ◌}
use Rattle.rational.specs.Laws.{Reflexive, Transitive, Total, Antisymmetric, SumMonotone, DifferenceMonotone, ProductMonotone, QuotientExact, UnitNumber, PowersStay, EvenPowersStay}
use Rattle.rational.proofs.Solver.{lit, ◌⊝◌, ◌≈◌, ring1}
use Rattle.rational.proofs.Rational.{ℚ, ⟦◌⟧, ◌*ℚ◌, of, of_is, add_is, sub_is, mul_is, over_is, eq_out, le_in, le_out, ◌≤ℚ◌, NonNeg, ℚ_ring}
use Rattle.rational.proofs.Order.{≤ℚ_refl, ≤ℚ_trans, ≤ℚ_total, ≤ℚ_antisym, ≤ℚ_add, ≤ℚ_neg, ≤ℚ_mul}
use Rattle.rational.proofs.Powers.{Unital, pow_is, unital_pow, pow_even_partial}

pub reflexive : Reflexive
reflexive a = le_out a a (≤ℚ_refl ⟦ a ⟧)

pub transitive : Transitive
transitive a b c h k = le_out a c (≤ℚ_trans (le_in a b h) (le_in b c k))

pub total : Total
total a b = elim (≤ℚ_total ⟦ a ⟧ ⟦ b ⟧) [ inl h ↦ inl (le_out a b h) | inr h ↦ inr (le_out b a h) ]

pub antisymmetric : Antisymmetric
antisymmetric a b h k = eq_out a b (≤ℚ_antisym (le_in a b h) (le_in b a k))

pub sum_monotone : SumMonotone
sum_monotone a b c d h k = le_out (a +ᶠ c) (b +ᶠ d) (rw (← add_is a c, ← add_is b d) (≤ℚ_add (le_in a b h) (le_in c d k)))

pub difference_monotone : DifferenceMonotone
difference_monotone a b c d h k = le_out (a -ᶠ d) (b -ᶠ c) (rw (← sub_is a d, ← sub_is b c) (≤ℚ_add (le_in a b h) (≤ℚ_neg (le_in c d k))))

-- whole numbers on either side of the order
low_in : (z : ℤ) (a : Fraction) → whole z ≤ᶠ a → of z ≤ℚ ⟦ a ⟧
low_in z a h = rw (of_is z) (le_in (whole z) a h)

high_in : (z : ℤ) (a : Fraction) → a ≤ᶠ whole z → ⟦ a ⟧ ≤ℚ of z
high_in z a h = rw (of_is z) (le_in a (whole z) h)

low_out : (z : ℤ) (a : Fraction) → of z ≤ℚ ⟦ a ⟧ → whole z ≤ᶠ a
low_out z a h = le_out (whole z) a (rw (← of_is z) h)

high_out : (z : ℤ) (a : Fraction) → ⟦ a ⟧ ≤ℚ of z → a ≤ᶠ whole z
high_out z a h = le_out a (whole z) (rw (← of_is z) h)

not_negative : {x : ℚ} → of (pos 0) ≤ℚ x → NonNeg x
not_negative {x} h = rw (ring1 ℚ_ring (λ x. x ⊝ lit (pos 0) ≈ x) tt x) at h.diff

pub product_monotone : ProductMonotone
product_monotone a b c n h = le_out (a *ᶠ c) (b *ᶠ c) (rw (← mul_is a c, ← mul_is b c) (≤ℚ_mul (not_negative (low_in (pos 0) c n)) (le_in a b h)))

pub quotient_exact : QuotientExact
quotient_exact a n h = eq_out (over a n h *ᶠ whole (pos n)) a (sym (mul_is (over a n h) (whole (pos n))) ∙ ap (◌*ℚ◌ ⟦ over a n h ⟧) (sym (of_is (pos n))) ∙ over_is a n h)

-- a number from -1 to 1, as a rational number
pub unit_in : {u : Fraction} → UnitNumber u → Unital ⟦ u ⟧
unit_in {u} U = record { low = low_in (negsuc 0) u U.low; high = high_in (pos 1) u U.high }

pub powers_stay : PowersStay
powers_stay u k U =
    let P = unital_pow (unit_in U) k in
    record { low = low_out (negsuc 0) (powᶠ u k) (rw (← pow_is u k) P.low); high = high_out (pos 1) (powᶠ u k) (rw (← pow_is u k) P.high) }

pub even_powers_stay : EvenPowersStay
even_powers_stay u k U =
    let P = pow_even_partial (unit_in U) k in
    record { low = low_out (pos 0) (powᶠ u (2 * k)) (rw (← pow_is u (2 * k)) P.low); high = high_out (pos 1) (powᶠ u (2 * k)) (rw (← pow_is u (2 * k)) P.high) }
