-- Each operation holds the exact outcome of what its operands hold, in rational numbers. Assumes nothing.
use Rattle.std.proofs.Common.{◌≡◌, ℕ, List, [], ◌∷◌, length, pos, Ok, sym, refl, ◌∙◌}
use mathlib.Core.Quot.{sound}
use Rattle.std.specs.List.{AllByRecursion}
use Rattle.std.proofs.ByRecursion.{All-weaker}
use Rattle.rational.specs.Fraction.{Fraction}
use Rattle.rational.proofs.Solver.{lit, ◌⊕◌, ◌⊗◌, ⊖◌, ◌⊝◌, ◌≈◌, ring1, ring2, ring4, ring5, combine}
use Rattle.rational.proofs.Rational.{ℚ, ⟦◌⟧, ◌+ℚ◌, ◌*ℚ◌, negℚ, of, ℚ_ring, add_is}
use Rattle.rational.proofs.Order.{≤ℚ_refl}
use Rattle.interval.specs.declared.marks.Interval.{Interval}
use Rattle.interval.specs.Interval.{Fits, interval}
use Rattle.interval.specs.Kind.{KindMeaning}
use Rattle.interval.proofs.Enclosure.{◌inside◌, inside_of, within_of, inside_ordered, inside-sum, inside-negated}
use Rattle.interval.proofs.Encloses.{splits_select}
use Rattle.table.specs.Monomial.{constant_monomial}
use Rattle.polynomial.specs.declared.term.Term.{Term}
use Rattle.polynomial.specs.Reach.{term, joins, dropped}
use Rattle.polynomial.specs.Value.{Units}
use Rattle.polynomial.specs.Method.{MethodMeaning, FitTerm, Polynomial}
use Rattle.taylor.specs.Model.{Model, model, zero_model}
use Rattle.taylor.specs.Form.{NormalTerm, Normal}
use Rattle.taylor.specs.Arithmetic.{constant, negated_model, sum}
use Rattle.taylor.specs.Product.{Worked, pairs, product, times_worked}
use Rattle.taylor.proofs.Made.{sum_made, product_made, times_made}
use Rattle.taylor.proofs.Sizes.{scale-above}
use Rattle.taylor.proofs.Drafts.{Six, pairs_ordered, all_fit_in}
use Rattle.taylor.proofs.Monomials.{value_zeros}
use Rattle.taylor.proofs.Values.{Value, Holds, joins-value, negated-value, dropped-value}
use Rattle.taylor.proofs.Bounds.{value_ranged}
use Rattle.taylor.proofs.Products.{part, part-scale, inside-times, pairs-value, more_holds, gathered-holds}

-- a whole number lies in the interval of that number alone
pub inside-point : {x : ℚ} → (z : _) → x ≡ of z → x inside interval z z
inside-point z e = rw e (record { low = ≤ℚ_refl (of z); high = ≤ℚ_refl (of z) })

module _ (us : List Fraction) where
  -- ---- sums
  pub sum-holds : (M N R : Model) {x y : ℚ} → Holds us M x → Holds us N y → sum M N ≡ Ok R → Holds us R (x +ℚ y)
  sum-holds M N R E F e =
      let table = joins M.terms N.terms in
      rw (sum_made M N R e).is (record {
        poly = E.poly +ℚ F.poly;
        rest = E.rest +ℚ F.rest;
        poly_in = dropped-value us table (E.poly +ℚ F.poly) (joins-value us M.terms N.terms E.poly F.poly E.poly_in F.poly_in);
        rest_in = inside-sum E.rest_in F.rest_in;
        sum = rw (E.sum, F.sum) (ring4 ℚ_ring (λ p i q j. (p ⊕ i) ⊕ (q ⊕ j) ≈ (p ⊕ q) ⊕ (i ⊕ j)) tt E.poly E.rest F.poly F.rest);
      })

  pub negated-holds : (M : Model) {x : ℚ} → Holds us M x → Holds us (negated_model M) (negℚ x)
  negated-holds M E = record {
    poly = negℚ E.poly;
    rest = negℚ E.rest;
    poly_in = negated-value us M.terms E.poly E.poly_in;
    rest_in = inside-negated E.rest_in;
    sum = rw E.sum (ring2 ℚ_ring (λ p r. ⊖ (p ⊕ r) ≈ ⊖ p ⊕ ⊖ r) tt E.poly E.rest);
  }

  -- a constant term, dropped where it is [0, 0]
  pub constant_value : (c : Fraction) (i : Interval) → ⟦ c ⟧ inside i → Value us (term constant_monomial i ∷ []) ⟦ c ⟧
  constant_value c i h = (c, of (pos 0), h, refl, rw (value_zeros us 6) (ring1 ℚ_ring (λ c. c ≈ c ⊗ lit (pos 1) ⊕ lit (pos 0)) tt ⟦ c ⟧))

  pub constant-holds : (k : KindMeaning) (i : Interval) (x : Fraction) → Fits i → ⟦ x ⟧ inside i → Holds us (constant k i) ⟦ x ⟧
  unfolding constant
  constant-holds k i x f X =
      let s = splits_select k i x f (within_of X) in
      let c = s.coefficient in
      record {
        poly = ⟦ c ⟧;
        rest = ⟦ s.leftover ⟧;
        poly_in = dropped-value us (term constant_monomial (k.split i).0 ∷ []) ⟦ c ⟧ (constant_value c (k.split i).0 (inside_of s.in_coefficient));
        rest_in = inside_of s.in_leftover;
        sum = sound s.total ∙ sym (add_is c s.leftover);
      }

  zero_holds : Holds us zero_model (of (pos 0))
  zero_holds = record {
    poly = of (pos 0);
    rest = of (pos 0);
    poly_in = refl;
    rest_in = inside-point (pos 0) refl;
    sum = ring1 ℚ_ring (λ z. lit (pos 0) ≈ lit (pos 0) ⊕ lit (pos 0)) tt (of (pos 0));
  }

  -- what holds a number has a remainder in order
  pub holds-normal : (M : Model) {x : ℚ} → Polynomial M.terms → Holds us M x → Normal M
  holds-normal M P E = record {
    few = P.few;
    ascends = P.ascends;
    each = All-weaker FitTerm NormalTerm (λ t h. record { six = h.six; order = h.fit.order; some = h.some }) M.terms P.fit;
    order = inside_ordered E.rest_in;
  }

  module _ (U : Units us) (k : KindMeaning) (m : MethodMeaning) (order : ℕ) where
    -- 1 over the scale
    abbrev inverse : ℚ
    inverse = part us k.scale (scale-above k)

    fit-six : (ts : List Term) → AllByRecursion FitTerm ts → Six ts
    fit-six ts A = All-weaker FitTerm (λ t. length t.monomial ≡ 6) (λ t h. h.six) ts A

    -- ---- products
    pub product-holds : (M N R : Model) {x y : ℚ} → Polynomial M.terms → Polynomial N.terms → Holds us M x → Holds us N y → product k m order M N ≡ Ok R → Holds us R (x *ℚ y *ℚ inverse)
    product-holds M N R {x} {y} P Q E F e =
        let S = k.scale in
        let above = scale-above k in
        let ps = M.terms in
        let qs = N.terms in
        let six = fit-six ps P.fit in
        let six' = fit-six qs Q.fit in
        let made = product_made k m order M N R e in
        let hulls = all_fit_in (pairs S ps qs) (pairs_ordered S above ps qs) made.hulls in
        let G = gathered-holds us U k order (pairs S ps qs) zero_model (of (pos 0)) (E.poly *ℚ F.poly *ℚ inverse) hulls (pairs-value us S above ps qs E.poly F.poly six six' E.poly_in F.poly_in) zero_holds in
        let a = inside-times us S above (value_ranged us m ps U P E.poly_in) F.rest_in in
        let b = inside-times us S above (value_ranged us m qs U Q F.poly_in) E.rest_in in
        let c = inside-times us S above E.rest_in F.rest_in in
        rw (made.is, E.sum, F.sum, ring5 ℚ_ring (λ p i q j u. (p ⊕ i) ⊗ (q ⊕ j) ⊗ u ≈ ((lit (pos 0) ⊕ p ⊗ q ⊗ u) ⊕ p ⊗ j ⊗ u) ⊕ q ⊗ i ⊗ u ⊕ i ⊗ j ⊗ u) tt E.poly E.rest F.poly F.rest inverse)
        (dropped-holds (more_holds us c (more_holds us b (more_holds us a G))))
      where
        dropped-holds : {ts : List Term} {r : Interval} {z : ℚ} → Holds us (model ts r) z → Holds us (model (dropped ts) r) z
        dropped-holds {ts} {r} {z} H = record { poly = H.poly; rest = H.rest; poly_in = dropped-value us ts H.poly H.poly_in; rest_in = H.rest_in; sum = H.sum }

    -- in units
    scaled : (x y : ℚ) → (x *ℚ of (pos k.scale)) *ℚ (y *ℚ of (pos k.scale)) *ℚ inverse ≡ (x *ℚ y) *ℚ of (pos k.scale)
    scaled x y = combine ℚ_ring (x *ℚ y *ℚ of (pos k.scale)) (part-scale us k.scale (scale-above k))
        (ring4 ℚ_ring (λ x y s u. (x ⊗ s) ⊗ (y ⊗ s) ⊗ u ⊝ (x ⊗ y) ⊗ s ≈ (x ⊗ y ⊗ s) ⊗ (u ⊗ s ⊝ lit (pos 1))) tt x y (of (pos k.scale)) inverse)

    -- the model holds x units
    abbrev pub UnitsOf : Model → ℚ → Type 0
    UnitsOf M x = Holds us M (x *ℚ of (pos k.scale))

    pub product-carries : (M N R : Model) (x y : ℚ) → Polynomial M.terms → Polynomial N.terms → UnitsOf M x → UnitsOf N y → product k m order M N ≡ Ok R → UnitsOf R (x *ℚ y)
    product-carries M N R x y P Q E F e = rw (← scaled x y) (product-holds M N R P Q E F e)

    pub times-carries : (w v : Worked) (N : Model) (x y : ℚ) → Polynomial w.model.terms → Polynomial N.terms → UnitsOf w.model x → UnitsOf N y
        → times_worked k m order w N ≡ Ok v → UnitsOf v.model (x *ℚ y)
    times-carries w v N x y P Q E F e = product-carries w.model N v.model x y P Q E F (times_made k m order w v N e).made
