-- What a polynomial attains and a model selects, in rational numbers: tables that grow by a term attain the sum.
-- Assumes nothing.
use Rattle.std.proofs.Common.{◌≡◌, Bool, true, false, cond, not, eqb, List, [], ◌∷◌, map, ℤ, pos, nat_abs, Ordering, Less, Equal, Greater, sym, refl, ap, ◌∙◌, ap₂, arith}
use mathlib.Core.Quot.{sound}
use borrow.Author.Differences.{ints}
use Rattle.std.proofs.lemmas.Bool.{eqb-true, and_parts}
use Rattle.rational.specs.Fraction.{Fraction, negᶠ, ◌+ᶠ◌, ◌-ᶠ◌, ◌*ᶠ◌}
use Rattle.rational.proofs.Solver.{lit, ◌⊕◌, ◌⊗◌, ⊖◌, ◌⊝◌, ◌≈◌, ring1, ring2, ring3, ring4, ring5}
use Rattle.rational.proofs.Rational.{ℚ, ⟦◌⟧, ◌+ℚ◌, ◌-ℚ◌, ◌*ℚ◌, negℚ, of, of_is, ℚ_ring, add_is, mul_is, sub_is, neg_is_f, eq_out}
use Rattle.rational.proofs.Order.{≤ℚ_antisym}
use Rattle.interval.specs.declared.marks.Interval.{Interval}
use Rattle.interval.specs.Interval.{is_zero, negated}
use Rattle.interval.proofs.Enclosure.{◌inside◌, inside_of, within_of, inside-sum, inside-negated}
use Rattle.table.specs.Monomial.{Monomial}
use Rattle.table.specs.Order.{by_degree, monomials_exact}
use Rattle.table.specs.Table.{by_rank, entered}
use Rattle.polynomial.specs.declared.term.Term.{Term}
use Rattle.polynomial.specs.Reach.{term, joined, joins, dropped}
use Rattle.polynomial.specs.Value.{monomial_value, Inside, value_with}
use Rattle.polynomial.proofs.Reaches.{value}
use Rattle.taylor.specs.Model.{Model}
use Rattle.taylor.specs.Selection.{Selects}

module _ (us : List Fraction) where
  -- v is a number of each coefficient, times the monomial's value, added up
  abbrev pub Value : List Term → ℚ → Type 0
  Value [] v = v ≡ of (pos 0)
  Value (t ∷ ts) v = (c : Fraction) × (w : ℚ) × (⟦ c ⟧ inside t.coefficient) × Value ts w × (v ≡ ⟦ c ⟧ *ℚ value us t.monomial +ℚ w)

  -- x is a value of the model
  pub record Holds (M : Model) (x : ℚ) : Type 0 where
    pub poly : ℚ
    pub rest : ℚ
    pub poly_in : Value M.terms poly
    pub rest_in : rest inside M.remainder
    pub sum : x ≡ poly +ℚ rest

  -- ---- from and to fractions
  at-term : (c : Fraction) (m : Monomial) (w : Fraction) → ⟦ c *ᶠ monomial_value us m +ᶠ w ⟧ ≡ ⟦ c ⟧ *ℚ value us m +ℚ ⟦ w ⟧
  at-term c m w = sym (add_is (c *ᶠ monomial_value us m) w) ∙ ap (λ z. z +ℚ ⟦ w ⟧) (sym (mul_is c (monomial_value us m)))

  pub value_in : (cs : List Fraction) (ts : List Term) → Inside cs ts → Value ts ⟦ value_with us cs ts ⟧
  value_in [] [] h = sym (of_is (pos 0))
  value_in [] (t ∷ ts) h = absurd h
  value_in (c ∷ cs) [] h = absurd h
  value_in (c ∷ cs) (t ∷ ts) h = (c, ⟦ value_with us cs ts ⟧, inside_of h.0, value_in cs ts h.1, at-term c t.monomial (value_with us cs ts))

  -- the numbers of a value
  pub value_out : (ts : List Term) {v : ℚ} → Value ts v → (cs : List Fraction) × Inside cs ts × (⟦ value_with us cs ts ⟧ ≡ v)
  value_out [] e = ([], tt, sym (of_is (pos 0)) ∙ sym e)
  value_out (t ∷ ts) (c, w, h, W, e) =
      let f = value_out ts W in
      (c ∷ f.0, (within_of h, f.1), at-term c t.monomial (value_with us f.0 ts) ∙ ap (λ z. ⟦ c ⟧ *ℚ value us t.monomial +ℚ z) f.2 ∙ sym e)

  pub selects_in : {M : Model} {x : Fraction} → Selects us M x → Holds M ⟦ x ⟧
  selects_in {M} {x} s = record {
    poly = ⟦ value_with us s.numbers M.terms ⟧;
    rest = ⟦ s.rest ⟧;
    poly_in = value_in s.numbers M.terms s.inside;
    rest_in = inside_of s.rest_inside;
    sum = sound s.sum ∙ sym (add_is (value_with us s.numbers M.terms) s.rest);
  }

  pub selects_out : {M : Model} (x : Fraction) {v : ℚ} → ⟦ x ⟧ ≡ v → Holds M v → Selects us M x
  selects_out {M} x {v} q h =
      let f = value_out M.terms h.poly_in in
      let p = value_with us f.0 M.terms in
      let r = x -ᶠ p in
      let e : ⟦ r ⟧ ≡ h.rest = sym (sub_is x p) ∙ ap₂ ◌-ℚ◌ (q ∙ h.sum) f.2 ∙ ring2 ℚ_ring (λ p r. (p ⊕ r) ⊝ p ≈ r) tt h.poly h.rest in
      record {
        numbers = f.0;
        rest = r;
        inside = f.1;
        rest_inside = within_of (rw e h.rest_in);
        sum = eq_out x (p +ᶠ r) (q ∙ h.sum ∙ ap₂ ◌+ℚ◌ (sym f.2) (sym e) ∙ add_is p r);
      }

  -- ---- tables
  pub entered-value : (t : Term) (ts : List Term) (c : Fraction) (v : ℚ) → ⟦ c ⟧ inside t.coefficient → Value ts v
      → Value (entered by_degree (λ u. u.monomial) joined ts t) (⟦ c ⟧ *ℚ value us t.monomial +ℚ v)
  entered-value t [] c v h e = (c, v, h, e, refl)
  entered-value t (x ∷ xs) c v h (d, w, hd, W, e) = go (by_degree.rank x.monomial t.monomial) refl (entered-value t xs c w h W)
    where
      more : List Term
      more = entered by_degree (λ u. u.monomial) joined xs t

      go : (r : Ordering) → by_degree.rank x.monomial t.monomial ≡ r → Value more (⟦ c ⟧ *ℚ value us t.monomial +ℚ w)
          → Value (by_rank r (x ∷ more) (joined x t ∷ xs) (t ∷ x ∷ xs)) (⟦ c ⟧ *ℚ value us t.monomial +ℚ v)
      go Less q V = (
        d,
        ⟦ c ⟧ *ℚ value us t.monomial +ℚ w,
        hd,
        V,
        rw e (ring5 ℚ_ring (λ c m d k w. c ⊗ m ⊕ (d ⊗ k ⊕ w) ≈ d ⊗ k ⊕ (c ⊗ m ⊕ w)) tt ⟦ c ⟧ (value us t.monomial) ⟦ d ⟧ (value us x.monomial) w),
      )
      go Equal q V = (
        d +ᶠ c,
        w,
        rw (← add_is d c) (inside-sum hd h),
        W,
        rw (e, ← monomials_exact x.monomial t.monomial q, ← add_is d c) (ring4 ℚ_ring (λ c d k w. c ⊗ k ⊕ (d ⊗ k ⊕ w) ≈ (d ⊕ c) ⊗ k ⊕ w) tt ⟦ c ⟧ ⟦ d ⟧ (value us x.monomial) w),
      )
      go Greater q V = (c, v, h, (d, w, hd, W, e), refl)

  pub joins-value : (ts qs : List Term) (v w : ℚ) → Value ts v → Value qs w → Value (joins ts qs) (v +ℚ w)
  joins-value ts [] v w V e = rw (e, ring1 ℚ_ring (λ v. v ⊕ lit (pos 0) ≈ v) tt v) V
  joins-value ts (q ∷ qs) v z V (c, w, h, W, e) =
      rw (e, ring4 ℚ_ring (λ v c k w. v ⊕ (c ⊗ k ⊕ w) ≈ (c ⊗ k ⊕ v) ⊕ w) tt v ⟦ c ⟧ (value us q.monomial) w)
      (joins-value (entered by_degree (λ u. u.monomial) joined ts q) qs (⟦ c ⟧ *ℚ value us q.monomial +ℚ v) w (entered-value q ts c v h V) W)

  pub negated-value : (ts : List Term) (v : ℚ) → Value ts v → Value (map (λ t. term t.monomial (negated t.coefficient)) ts) (negℚ v)
  negated-value [] v e = rw e (ring1 ℚ_ring (λ v. ⊖ lit (pos 0) ≈ lit (pos 0)) tt v)
  negated-value (t ∷ ts) v (c, w, h, W, e) = (
    negᶠ c,
    negℚ w,
    rw (← neg_is_f c) (inside-negated h),
    negated-value ts w W,
    rw (e, ← neg_is_f c) (ring3 ℚ_ring (λ c k w. ⊖ (c ⊗ k ⊕ w) ≈ (⊖ c) ⊗ k ⊕ ⊖ w) tt ⟦ c ⟧ (value us t.monomial) w),
  )

  -- a coefficient of [0, 0] adds nothing
  zero_number : {c : ℚ} {i : Interval} → is_zero i ≡ true → c inside i → c ≡ of (pos 0)
  zero_number {c} {i} z h =
      let both = and_parts (eqb (nat_abs i.lower) 0) (eqb (nat_abs i.upper) 0) z in
      ≤ℚ_antisym (rw (abs_zero i.upper both.1) at h.high) (rw (abs_zero i.lower both.0) at h.low)
    where
      abs_zero : (z : ℤ) → eqb (nat_abs z) 0 ≡ true → z ≡ pos 0
      abs_zero z t = let e = eqb-true (nat_abs z) 0 t in omega (arith, ints)

  pub dropped-value : (ts : List Term) (v : ℚ) → Value ts v → Value (dropped ts) v
  dropped-value [] v e = e
  dropped-value (t ∷ ts) v (c, w, h, W, e) = go (is_zero t.coefficient) refl (dropped-value ts w W)
    where
      go : (b : Bool) → is_zero t.coefficient ≡ b → Value (dropped ts) w → Value (cond (not b) (t ∷ dropped ts) (dropped ts)) v
      go false q V = (c, w, h, V, e)
      go true q V = rw (e, zero_number q h, ring2 ℚ_ring (λ k w. lit (pos 0) ⊗ k ⊕ w ≈ w) tt (value us t.monomial) w) V
