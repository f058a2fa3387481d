-- A power holds the power of what its operand holds: one product after the other. Assumes nothing.
use Rattle.std.proofs.Common.{◌≡◌, ℕ, zero, suc, true, List, pos, Ok, sym, subst}
use Rattle.rational.specs.Fraction.{Fraction, whole}
use Rattle.rational.proofs.Solver.{lit, ◌⊗◌, ◌≈◌, ring1, ring3}
use Rattle.rational.proofs.Rational.{ℚ, ◌*ℚ◌, of, of_is, ℚ_ring}
use Rattle.rational.proofs.Powers.{pow}
use Rattle.interval.specs.Interval.{interval}
use Rattle.interval.specs.Kind.{KindMeaning}
use Rattle.polynomial.specs.Value.{Units}
use Rattle.polynomial.specs.Method.{MethodMeaning, Polynomial}
use Rattle.taylor.specs.Model.{Model}
use Rattle.taylor.specs.Arithmetic.{one}
use Rattle.taylor.specs.Product.{Worked, worked, times_worked, raised, power}
use Rattle.taylor.proofs.Results.{same-value, and_then_ok}
use Rattle.taylor.proofs.Made.{alone_made}
use Rattle.taylor.proofs.Sizes.{one-fits}
use Rattle.taylor.proofs.Tests.{tested_polynomial, times-kept}
use Rattle.taylor.proofs.Carrying.{inside-point, constant-holds, holds-normal, UnitsOf, times-carries}

module _ (us : List Fraction) (U : Units us) (k : KindMeaning) (m : MethodMeaning) (order : ℕ) where
  raised-carries : (n : ℕ) (w v : Worked) (N : Model) (x y : ℚ) → Polynomial w.model.terms → Polynomial N.terms → UnitsOf us U k m order w.model x → UnitsOf us U k m order N y
      → raised k m order n w N ≡ Ok v → UnitsOf us U k m order v.model (x *ℚ pow y n)
  unfolding raised pow
  raised-carries zero w v N x y P Q E F e =
      subst (λ (u : Worked). UnitsOf us U k m order u.model (x *ℚ of (pos 1))) (same-value e) (rw (ring1 ℚ_ring (λ x. x ⊗ lit (pos 1) ≈ x) tt x) E)
  raised-carries (suc n) w v N x y P Q E F e =
      let a = and_then_ok (times_worked k m order w N) (λ u. raised k m order n u N) e in
      let u = a.0 in
      let t = times-kept k m order w u N (holds-normal us w.model P E) (holds-normal us N Q F) a.1 in
      rw (ring3 ℚ_ring (λ x y p. x ⊗ (y ⊗ p) ≈ (x ⊗ y) ⊗ p) tt x y (pow y n))
      (raised-carries n u v N (x *ℚ y) y (tested_polynomial m u.model t.0) Q (times-carries us U k m order w u N x y P Q E F a.1) F a.2)

  pub power-carries : (n : ℕ) (M : Model) (w : Worked) (x : ℚ) → Polynomial M.terms → UnitsOf us U k m order M x → power k m order n M ≡ Ok w → UnitsOf us U k m order w.model (pow x n)
  unfolding power pow
  power-carries zero M w x P E e =
      let S = pos k.scale in
      rw ((alone_made m (one k) true w e).0, ring1 ℚ_ring (λ s. lit (pos 1) ⊗ s ≈ s) tt (of S), of_is S)
      (constant-holds us k (interval S S) (whole S) (one-fits k) (inside-point S (sym (of_is S))))
  power-carries (suc zero) M w x P E e = rw ((alone_made m M true w e).0, ring1 ℚ_ring (λ x. x ⊗ lit (pos 1) ≈ x) tt x) E
  power-carries (suc (suc n)) M w x P E e = raised-carries (suc n) (worked M 0 true) w M x x P P E E e
