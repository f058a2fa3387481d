-- The value of a product of monomials is the product of their values. Assumes nothing.
use Rattle.std.proofs.Common.{◌≡◌, ℕ, zero, suc, ◌+◌, List, [], ◌∷◌, length, pos, sym, ap, ◌∙◌, ap₂, suc-add, zero-add, arith}
use Rattle.rational.specs.Fraction.{Fraction, whole}
use Rattle.rational.proofs.Solver.{lit, ◌⊗◌, ◌≈◌, ring1, ring3, ring4}
use Rattle.rational.proofs.Rational.{ℚ, ⟦◌⟧, ◌*ℚ◌, of, ℚ_ring}
use Rattle.rational.proofs.Powers.{pow}
use Rattle.table.specs.Monomial.{Monomial, multiplied}
use Rattle.polynomial.proofs.Reaches.{value, value_cons, one_is}

pow_sum : (u : ℚ) (a b : ℕ) → pow u (a + b) ≡ pow u a *ℚ pow u b
unfolding pow
pow_sum u zero b = rw zero-add (ring1 ℚ_ring (λ p. p ≈ lit (pos 1) ⊗ p) tt (pow u b))
pow_sum u (suc a) b = rw suc-add (ap (◌*ℚ◌ u) (pow_sum u a b) ∙ ring3 ℚ_ring (λ u p q. u ⊗ (p ⊗ q) ≈ (u ⊗ p) ⊗ q) tt u (pow u a) (pow u b))

one_product : ⟦ whole (pos 1) ⟧ ≡ ⟦ whole (pos 1) ⟧ *ℚ ⟦ whole (pos 1) ⟧
one_product = rw one_is (ring1 ℚ_ring (λ x. lit (pos 1) ≈ lit (pos 1) ⊗ lit (pos 1)) tt (of (pos 1)))

pub value-product : (us : List Fraction) (m n : Monomial) → length m ≡ length n → value us (multiplied m n) ≡ value us m *ℚ value us n
value-product us [] [] h = one_product
value-product us [] (f ∷ n) h = absurd (omega arith)
value-product us (e ∷ m) [] h = absurd (omega arith)
value-product [] (e ∷ m) (f ∷ n) h = one_product
value-product (u ∷ us) (e ∷ m) (f ∷ n) h =
    value_cons u us (e + f) (multiplied m n) ∙ ap₂ ◌*ℚ◌ (pow_sum ⟦ u ⟧ e f) (value-product us m n (omega arith))
    ∙ ring4 ℚ_ring (λ p q x y. (p ⊗ q) ⊗ (x ⊗ y) ≈ (p ⊗ x) ⊗ (q ⊗ y)) tt (pow ⟦ u ⟧ e) (pow ⟦ u ⟧ f) (value us m) (value us n)
    ∙ ap₂ ◌*ℚ◌ (sym (value_cons u us e m)) (sym (value_cons u us f n))
