-- The pairs of two polynomials attain the product of what these attain, and a model that gathers pairs selects their sum.
-- Assumes nothing.
use Rattle.std.proofs.Common.{◌≡◌, ℕ, ◌<◌, Bool, true, false, cond, List, [], ◌∷◌, ◌++◌, length, pos, fold, sym, ap, ◌∙◌}
use mathlib.Core.Quot.{sound}
use Rattle.std.specs.List.{AllByRecursion}
use Rattle.rational.specs.Fraction.{Fraction, whole, over, ◌*ᶠ◌}
use Rattle.rational.proofs.Solver.{lit, ◌⊕◌, ◌⊗◌, ◌≈◌, ring1, ring2, ring3, ring4, ring5, ring6}
use Rattle.rational.proofs.Rational.{ℚ, ⟦◌⟧, ◌+ℚ◌, ◌*ℚ◌, of, of_is, ℚ_ring, add_is, mul_is, over_is, over-unit}
use Rattle.interval.specs.declared.marks.Interval.{Interval}
use Rattle.interval.specs.Interval.{Fits, plus, times}
use Rattle.interval.specs.Kind.{KindMeaning}
use Rattle.interval.proofs.Enclosure.{◌inside◌, inside_of, within_of, inside-sum, inside-product}
use Rattle.interval.proofs.Encloses.{splits_select}
use Rattle.polynomial.specs.declared.term.Term.{Term}
use Rattle.polynomial.specs.Reach.{term}
use Rattle.polynomial.specs.Value.{Units}
use Rattle.polynomial.proofs.Products.{value-product}
use Rattle.polynomial.proofs.Reaches.{value, reach-holds}
use Rattle.taylor.specs.Model.{Model, model}
use Rattle.taylor.specs.Product.{row, pairs, kept, keep, cut, gather}
use Rattle.taylor.proofs.Drafts.{Six}
use Rattle.taylor.proofs.Values.{Value, Holds, entered-value}

module _ (us : List Fraction) (S : ℕ) (above : 0 < S) where
  -- 1 over the scale
  abbrev pub part : ℚ
  part = ⟦ over (whole (pos 1)) S above ⟧

  pub part-scale : part *ℚ of (pos S) ≡ of (pos 1)
  part-scale = over_is (whole (pos 1)) S above ∙ sym (of_is (pos 1))

  -- a · b / S
  pub inside-times : {i j : Interval} {a b : ℚ} → a inside i → b inside j → a *ℚ b *ℚ part inside times S i j
  inside-times {i} {j} {a} {b} A B = inside-product S above A B
      (ring4 ℚ_ring (λ a b u n. (a ⊗ b ⊗ u) ⊗ n ≈ (a ⊗ b) ⊗ (u ⊗ n)) tt a b part (of (pos S)) ∙ ap (λ z. (a *ℚ b) *ℚ z) part-scale
      ∙ ring2 ℚ_ring (λ a b. (a ⊗ b) ⊗ lit (pos 1) ≈ a ⊗ b) tt a b)

  -- ---- the pairs
  row-value : (p : Term) (qs : List Term) (a : Fraction) (q : ℚ) → length p.monomial ≡ 6 → Six qs → ⟦ a ⟧ inside p.coefficient → Value us qs q
      → Value us (row S p qs) ((⟦ a ⟧ *ℚ value us p.monomial) *ℚ q *ℚ part)
  row-value p [] a q l six A e = rw e (ring3 ℚ_ring (λ a m u. (a ⊗ m) ⊗ lit (pos 0) ⊗ u ≈ lit (pos 0)) tt ⟦ a ⟧ (value us p.monomial) part)
  row-value p (t ∷ ts) a q l six A (b, w, hb, W, e) = (
    over (a *ᶠ b) S above,
    (⟦ a ⟧ *ℚ value us p.monomial) *ℚ w *ℚ part,
    rw at-product (inside-times A hb),
    row-value p ts a w l six.1 A W,
    rw (e, at-product, value-product us p.monomial t.monomial (l ∙ sym six.0))
        (ring6 ℚ_ring (λ a m b n w u. (a ⊗ m) ⊗ (b ⊗ n ⊕ w) ⊗ u ≈ (a ⊗ b ⊗ u) ⊗ (m ⊗ n) ⊕ (a ⊗ m) ⊗ w ⊗ u) tt ⟦ a ⟧ (value us p.monomial) ⟦ b ⟧ (value us t.monomial) w part),
  )
    where
      at-product : ⟦ over (a *ᶠ b) S above ⟧ ≡ ⟦ a ⟧ *ℚ ⟦ b ⟧ *ℚ part
      at-product = over-unit (a *ᶠ b) S above ∙ ap (λ z. z *ℚ part) (sym (mul_is a b))

  append-value : (ts qs : List Term) (v w : ℚ) → Value us ts v → Value us qs w → Value us (ts ++ qs) (v +ℚ w)
  append-value [] qs v w e W = rw (e, ring1 ℚ_ring (λ w. lit (pos 0) ⊕ w ≈ w) tt w) W
  append-value (t ∷ ts) qs v w (c, z, h, Z, e) W = (
    c,
    z +ℚ w,
    h,
    append-value ts qs z w Z W,
    rw e (ring4 ℚ_ring (λ c k z w. (c ⊗ k ⊕ z) ⊕ w ≈ c ⊗ k ⊕ (z ⊕ w)) tt ⟦ c ⟧ (value us t.monomial) z w),
  )

  pub pairs-value : (ps qs : List Term) (p q : ℚ) → Six ps → Six qs → Value us ps p → Value us qs q → Value us (pairs S ps qs) (p *ℚ q *ℚ part)
  unfolding pairs
  pairs-value [] qs p q s six e Q = rw e (ring2 ℚ_ring (λ q u. lit (pos 0) ⊗ q ⊗ u ≈ lit (pos 0)) tt q part)
  pairs-value (t ∷ ts) qs p q s six (a, w, ha, W, e) Q =
      let m = ⟦ a ⟧ *ℚ value us t.monomial in
      rw (e, ring4 ℚ_ring (λ m w q u. (m ⊕ w) ⊗ q ⊗ u ≈ m ⊗ q ⊗ u ⊕ w ⊗ q ⊗ u) tt m w q part)
      (append-value (row S t qs) (pairs S ts qs) (m *ℚ q *ℚ part) (w *ℚ q *ℚ part) (row-value t qs a q s.0 six ha Q) (pairs-value ts qs w q s.1 six W Q))

-- ---- what a model holds when something joins it
module _ (us : List Fraction) where
  -- a number joins the remainder
  pub more_holds : {M : Model} {x y : ℚ} {i : Interval} → y inside i → Holds us M x → Holds us (model M.terms (plus M.remainder i)) (x +ℚ y)
  more_holds {M} {x} {y} {i} h E = record {
    poly = E.poly;
    rest = E.rest +ℚ y;
    poly_in = E.poly_in;
    rest_in = inside-sum E.rest_in h;
    sum = rw E.sum (ring3 ℚ_ring (λ p r y. (p ⊕ r) ⊕ y ≈ p ⊕ (r ⊕ y)) tt E.poly E.rest y);
  }

module _ (us : List Fraction) (U : Units us) (k : KindMeaning) (order : ℕ) where
  keep-holds : (M : Model) (t : Term) (z : Fraction) {x : ℚ} → Fits t.coefficient → ⟦ z ⟧ inside t.coefficient → Holds us M x → Holds us (keep k M t) (x +ℚ ⟦ z ⟧ *ℚ value us t.monomial)
  keep-holds M t z {x} f Z E =
      let s = splits_select k t.coefficient z f (within_of Z) in
      let c = s.coefficient in
      let l = ⟦ s.leftover ⟧ in
      let e : ⟦ z ⟧ ≡ ⟦ c ⟧ +ℚ l = sound s.total ∙ sym (add_is c s.leftover) in
      record {
        poly = ⟦ c ⟧ *ℚ value us t.monomial +ℚ E.poly;
        rest = E.rest +ℚ l *ℚ value us t.monomial;
        poly_in = entered-value us (term t.monomial (k.split t.coefficient).0) M.terms c E.poly (inside_of s.in_coefficient) E.poly_in;
        rest_in = inside-sum E.rest_in (reach-holds us U t.monomial (inside_of s.in_leftover));
        sum = rw (e, E.sum) (ring5 ℚ_ring (λ p r c l k. (p ⊕ r) ⊕ (c ⊕ l) ⊗ k ≈ (c ⊗ k ⊕ p) ⊕ (r ⊕ l ⊗ k)) tt E.poly E.rest ⟦ c ⟧ l (value us t.monomial));
      }

  -- pairs that fit, one after the other
  pub gathered-holds : (ts : List Term) (M : Model) (x v : ℚ) → AllByRecursion (λ t. Fits t.coefficient) ts → Value us ts v → Holds us M x
      → Holds us (fold (gather k order) M ts) (x +ℚ v)
  gathered-holds [] M x v f e E = rw (e, ring1 ℚ_ring (λ x. x ⊕ lit (pos 0) ≈ x) tt x) E
  gathered-holds (t ∷ ts) M x v f (c, w, h, W, e) E =
      rw (e, ring4 ℚ_ring (λ x c k w. x ⊕ (c ⊗ k ⊕ w) ≈ (x ⊕ c ⊗ k) ⊕ w) tt x ⟦ c ⟧ (value us t.monomial) w)
      (gathered-holds ts _ (x +ℚ ⟦ c ⟧ *ℚ value us t.monomial) w f.1 W (go (kept order t)))
    where
      go : (b : Bool) → Holds us (cond b (keep k M t) (cut M t)) (x +ℚ ⟦ c ⟧ *ℚ value us t.monomial)
      go true = keep-holds M t c f.0 h E
      go false = more_holds us (reach-holds us U t.monomial h) E
