-- The value of the constant monomial is 1, and of a variable its coordinate. Assumes nothing.
use Rattle.std.proofs.Common.{◌≡◌, ℕ, zero, suc, ◌<◌, List, [], ◌∷◌, length, get_or, set, replicate, pos, ap, ◌∙◌, arith}
use Rattle.rational.specs.Fraction.{Fraction}
use Rattle.rational.proofs.Solver.{lit, ◌⊗◌, ◌≈◌, ring1}
use Rattle.rational.proofs.Rational.{⟦◌⟧, ◌*ℚ◌, of, ℚ_ring}
use Rattle.rational.proofs.Powers.{pow}
use Rattle.polynomial.proofs.Reaches.{one_is, value, value_cons}

-- exponents of 0
pub value_zeros : (us : List Fraction) (n : ℕ) → value us (replicate n 0) ≡ of (pos 1)
unfolding pow
value_zeros us zero = one_is
value_zeros [] (suc n) = one_is
value_zeros (u ∷ us) (suc n) = value_cons u us 0 (replicate n 0) ∙ ap (λ z. of (pos 1) *ℚ z) (value_zeros us n) ∙ ring1 ℚ_ring (λ x. lit (pos 1) ⊗ lit (pos 1) ≈ lit (pos 1)) tt (of (pos 1))

-- the exponent 1 at place v
pub value_single : (us : List Fraction) (n v : ℕ) (d : Fraction) → v < n → v < length us → value us (set (replicate n 0) v 1) ≡ ⟦ get_or us v d ⟧
unfolding pow
value_single us zero v d h k = absurd (omega arith)
value_single [] (suc n) v d h k = absurd (omega arith)
value_single (u ∷ us) (suc n) zero d h k =
    value_cons u us 1 (replicate n 0) ∙ ap (λ z. (⟦ u ⟧ *ℚ of (pos 1)) *ℚ z) (value_zeros us n) ∙ ring1 ℚ_ring (λ u. (u ⊗ lit (pos 1)) ⊗ lit (pos 1) ≈ u) tt ⟦ u ⟧
value_single (u ∷ us) (suc n) (suc v) d h k =
    value_cons u us 0 (set (replicate n 0) v 1) ∙ ap (λ z. of (pos 1) *ℚ z) (value_single us n v d (omega arith) (omega arith)) ∙ ring1 ℚ_ring (λ u. lit (pos 1) ⊗ u ≈ u) tt ⟦ get_or us v d ⟧
