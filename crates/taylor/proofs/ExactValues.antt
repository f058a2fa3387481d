-- A polynomial of points attains one value, which is both ends. Assumes nothing.
use Rattle.std.proofs.Common.{◌≡◌, Bool, true, false, cond, List, [], ◌∷◌, pos, sym, refl, ap, ◌∙◌, subst, ap₂}
use Rattle.std.specs.List.{AllByRecursion}
use Rattle.rational.specs.Fraction.{Fraction, whole, ◌*ᶠ◌, minᶠ, maxᶠ}
use Rattle.rational.proofs.Solver.{lit, ◌⊕◌, ◌≈◌, ring1}
use Rattle.rational.proofs.Rational.{ℚ, ⟦◌⟧, ◌+ℚ◌, ◌*ℚ◌, of, of_is, ℚ_ring, add_is, mul_is, eq_out}
use Rattle.rational.proofs.Order.{≤ℚ_antisym}
use Rattle.interval.specs.declared.marks.Interval.{Interval}
use Rattle.interval.specs.Interval.{zero_interval}
use Rattle.interval.proofs.Enclosure.{◌inside◌}
use Rattle.polynomial.specs.declared.term.Term.{Term}
use Rattle.polynomial.specs.Value.{monomial_value, lower_times, upper_times, lower_value, upper_value}
use Rattle.polynomial.proofs.Reaches.{value}
use Rattle.taylor.specs.Exactness.{Point, PointsExact}
use Rattle.taylor.proofs.Values.{Value, selects_in}

point-number : {i : Interval} {x : ℚ} → Point i → x inside i → x ≡ of i.lower
point-number p h = ≤ℚ_antisym (rw p h.high) h.low

either : (t : Bool) (a b : Fraction) → a ≡ b → cond t a b ≡ a
either true a b e = refl
either false a b e = sym e

module _ (us : List Fraction) where
  -- the lesser and the greater of a point's two ends, times the monomial
  term-exact : (t : Term) → Point t.coefficient → (minᶠ (lower_times us t) (upper_times us t) ≡ lower_times us t) × (maxᶠ (lower_times us t) (upper_times us t) ≡ lower_times us t)
  term-exact t p =
      let e : lower_times us t ≡ upper_times us t = ap (λ z. whole z *ᶠ monomial_value us t.monomial) p in
      (either _ (lower_times us t) (upper_times us t) e, either _ (upper_times us t) (lower_times us t) (sym e) ∙ sym e)

  value-exact : (ts : List Term) (v : ℚ) → AllByRecursion (λ t. Point t.coefficient) ts → Value us ts v → (⟦ lower_value us ts ⟧ ≡ v) × (⟦ upper_value us ts ⟧ ≡ v)
  unfolding lower_value upper_value
  value-exact [] v A e = (sym (of_is (pos 0)) ∙ sym e, sym (of_is (pos 0)) ∙ sym e)
  value-exact (t ∷ ts) v A (c, w, h, W, e) =
      let m = term-exact t A.0 in
      let rest = value-exact ts w A.1 W in
      let here : ⟦ lower_times us t ⟧ ≡ ⟦ c ⟧ *ℚ value us t.monomial = sym (mul_is (whole t.coefficient.lower) (monomial_value us t.monomial)) ∙ ap (λ z. z *ℚ value us t.monomial) (sym (of_is t.coefficient.lower) ∙ sym (point-number A.0 h)) in (
        sym (add_is (minᶠ (lower_times us t) (upper_times us t)) (lower_value us ts)) ∙ ap₂ ◌+ℚ◌ (ap {B = ℚ} (λ a. ⟦ a ⟧) m.0 ∙ here) rest.0 ∙ sym e,
        sym (add_is (maxᶠ (lower_times us t) (upper_times us t)) (upper_value us ts)) ∙ ap₂ ◌+ℚ◌ (ap {B = ℚ} (λ a. ⟦ a ⟧) m.1 ∙ here) rest.1 ∙ sym e,
      )

pub points-exact : PointsExact
points-exact us M x P s =
    let E = selects_in us s in
    let none : E.rest ≡ of (pos 0) = point-number {i = zero_interval} refl (subst (λ (i : Interval). E.rest inside i) P.remainder E.rest_in) in
    let same : E.poly ≡ ⟦ x ⟧ = sym (E.sum ∙ ap (λ z. E.poly +ℚ z) none ∙ ring1 ℚ_ring (λ p. p ⊕ lit (pos 0) ≈ p) tt E.poly) in
    let v = value-exact us M.terms E.poly P.coefficients E.poly_in in
    record { low = eq_out _ x (v.0 ∙ same); high = eq_out _ x (v.1 ∙ same) }
