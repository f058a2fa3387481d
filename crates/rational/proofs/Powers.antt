-- Powers of a number from -1 to 1 stay there, and even ones lie from 0 to 1. Assumes nothing.
use mathlib.Core.Path.{◌≡◌, ap, ◌∙◌}
use Prim.Native.Nat.{ℕ, zero, suc, ◌*◌}
use native.Mathlib.Omega.{arith}
use lib.IntN.{pos, negsuc}
use borrow.Author.Differences.{ints}
use Rattle.rational.specs.Fraction.{Fraction, powᶠ}
use Rattle.rational.proofs.Solver.{lit, ◌⊕◌, ◌⊗◌, ◌⊝◌, ◌≈◌, ring2}
use Rattle.rational.proofs.Rational.{ℚ, ⟦◌⟧, ◌*ℚ◌, of, of_is, ℚ_ring, ◌≤ℚ◌, mul_is}
use Rattle.rational.proofs.Certificate.{◌≼◌∵◌, cert1, cert2, signs}
use Rattle.rational.proofs.Order.{≤ℚ_refl, of_mono, slide_low, slide_high}

pub record Between (l h x : ℚ) : Type 0 where
  pub low : l ≤ℚ x
  pub high : x ≤ℚ h

-- from -1 to 1, and from 0 to 1
abbrev pub Unital : ℚ → Type 0
Unital u = Between (of (negsuc 0)) (of (pos 1)) u

abbrev pub Partial : ℚ → Type 0
Partial u = Between (of (pos 0)) (of (pos 1)) u

unfoldable pub pow : ℚ → ℕ → ℚ
pow u zero = of (pos 1)
pow u (suc k) = u *ℚ pow u k

pub pow_is : (u : Fraction) (k : ℕ) → pow ⟦ u ⟧ k ≡ ⟦ powᶠ u k ⟧
unfolding pow
pow_is u zero = of_is (pos 1)
pow_is u (suc k) = ap (◌*ℚ◌ ⟦ u ⟧) (pow_is u k) ∙ mul_is u (powᶠ u k)

pub unital_mul : {u w : ℚ} → Unital u → Unital w → Unital (u *ℚ w)
unital_mul {u} {w} U W = record {
  low = slide_low w U.low U.high (cert1 (λ w. lit (negsuc 0) ≼ lit (negsuc 0) ⊗ w ∵ lit (pos 1) ⊝ w) tt w W.high.diff) (cert1 (λ w. lit (negsuc 0) ≼ lit (pos 1) ⊗ w ∵ w ⊝ lit (negsuc 0)) tt w W.low.diff);
  high = slide_high w U.low U.high (cert1 (λ w. lit (negsuc 0) ⊗ w ≼ lit (pos 1) ∵ w ⊝ lit (negsuc 0)) tt w W.low.diff) (cert1 (λ w. lit (pos 1) ⊗ w ≼ lit (pos 1) ∵ lit (pos 1) ⊝ w) tt w W.high.diff);
}

pub partial_mul : {u w : ℚ} → Partial u → Partial w → Partial (u *ℚ w)
partial_mul {u} {w} U W = record {
  low = cert2 (λ u w. lit (pos 0) ≼ u ⊗ w ∵ (u ⊝ lit (pos 0)) ⊗ (w ⊝ lit (pos 0))) tt u w (search signs);
  high = cert2 (λ u w. u ⊗ w ≼ lit (pos 1) ∵ (u ⊝ lit (pos 0)) ⊗ (lit (pos 1) ⊝ w) ⊕ (lit (pos 1) ⊝ u)) tt u w (search signs);
}

pub square_partial : {u : ℚ} → Unital u → Partial (u *ℚ u)
square_partial {u} U = record { low = cert1 (λ u. lit (pos 0) ≼ u ⊗ u ∵ u ⊗ u) tt u (search signs); high = (unital_mul U U).high }

pub unital_pow : {u : ℚ} → Unital u → (k : ℕ) → Unital (pow u k)
unfolding pow
unital_pow U zero = record { low = of_mono (omega (arith, ints)); high = ≤ℚ_refl (of (pos 1)) }
unital_pow U (suc k) = unital_mul U (unital_pow U k)

pub pow_even_partial : {u : ℚ} → Unital u → (k : ℕ) → Partial (pow u (2 * k))
unfolding pow
pow_even_partial {u} U zero = record { low = of_mono (omega (arith, ints)); high = ≤ℚ_refl (of (pos 1)) }
pow_even_partial {u} U (suc k) =
    let e : 2 * suc k ≡ suc (suc (2 * k)) = omega arith in
    rw e (rw (ring2 ℚ_ring (λ u p. u ⊗ (u ⊗ p) ≈ (u ⊗ u) ⊗ p) tt u (pow u (2 * k))) (partial_mul (square_partial U) (pow_even_partial U k)))
