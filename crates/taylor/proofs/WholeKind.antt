-- In the whole kind the leftover of a point is [0, 0], so a product that cuts nothing keeps points. Assumes nothing.
use Rattle.std.proofs.Common.{◌≡◌, ℕ, zero, suc, true, List, [], ◌∷◌, ℤ, pos, Ok, fold, sym, refl, ap, ◌∙◌, subst, arith}
use lib.Ieee.{Float}
use Rattle.std.specs.List.{AllByRecursion}
use Rattle.std.proofs.lemmas.Int.{ints}
use Rattle.std.proofs.lemmas.Bool.{and_parts}
use Rattle.rational.specs.Fraction.{whole, ◌=ᶠ◌}
use Rattle.interval.specs.declared.marks.Interval.{Interval}
use Rattle.interval.specs.Interval.{Fits, interval, zero_interval, times}
use Rattle.interval.specs.Hull.{value, hull}
use Rattle.interval.specs.Kind.{KindMeaning}
use Rattle.table.specs.Monomial.{constant_monomial}
use Rattle.table.specs.Order.{by_degree}
use Rattle.table.proofs.Growth.{all_entered}
use Rattle.polynomial.specs.declared.term.Term.{Term}
use Rattle.polynomial.specs.Reach.{term, reach, joined}
use Rattle.polynomial.specs.Method.{MethodMeaning}
use Rattle.taylor.specs.Model.{Model, zero_model}
use Rattle.taylor.specs.Arithmetic.{constant, one, negated_model}
use Rattle.taylor.specs.Product.{Worked, worked, pairs, kept, all_kept, keep, gathered, product, product_pairs, times_worked, raised, power, gather}
use Rattle.taylor.specs.Exactness.{Whole, Point, Pointed, WholeExact}
use Rattle.taylor.proofs.Results.{same-value, and_then_ok}
use Rattle.taylor.proofs.Made.{product_made, alone_made, times_made}
use Rattle.taylor.proofs.Sizes.{scale-above, one-fits}
use Rattle.taylor.proofs.Drafts.{pairs-each, pairs_ordered, all_fit_in}
use Rattle.taylor.proofs.Points.{times-point, times_zero, reach_zero, plus_zero, whole-hull, Points, plus-point, dropped-points, sum_pointed, negated_pointed, variable_pointed, interval_is}

module _ (k : KindMeaning) (W : Whole k) where
  -- the parts of a point
  split-point : (i : Interval) → Fits i → Point i → Point (k.split i).0 × ((k.split i).1 ≡ zero_interval)
  split-point i f p = rw (W.points i f) (refl, interval_is refl (rw p (omega (arith, ints))))

  constant_pointed : (i : Interval) → Fits i → Point i → Pointed (constant k i)
  unfolding constant
  constant_pointed i f p =
      let s = split-point i f p in
      record { coefficients = dropped-points (term constant_monomial (k.split i).0 ∷ []) (s.0, tt); remainder = s.1 }

  hull_pointed : (x : Float) (z : ℤ) → value x =ᶠ whole z → Fits (hull k.scale x) → Pointed (constant k (hull k.scale x))
  hull_pointed x z e f = constant_pointed (hull k.scale x) f (rw W.unit (whole-hull x z e))

  times_zero_at : (i j : Interval) → j ≡ zero_interval → times k.scale i j ≡ zero_interval
  times_zero_at i j e = rw (W.unit, e) (times_zero i)

  pairs-points : (ps qs : List Term) → Points ps → Points qs → Points (pairs k.scale ps qs)
  pairs-points ps qs A B =
      pairs-each k.scale (λ t. Point t.coefficient) (λ t. Point t.coefficient)
      (λ p q a b. subst (λ (S : ℕ). Point (times S p.coefficient q.coefficient)) (sym W.unit) (times-point p.coefficient q.coefficient a b)) ps qs A B

  module _ (m : MethodMeaning) (order : ℕ) where
    keep_pointed : (M : Model) (t : Term) → Fits t.coefficient → Point t.coefficient → Pointed M → Pointed (keep k M t)
    keep_pointed M t f p P =
        let s = split-point t.coefficient f p in
        record {
          coefficients = all_entered by_degree (λ u. u.monomial) joined (λ u. Point u.coefficient) (λ u. Point u.coefficient) (term t.monomial (k.split t.coefficient).0) (λ x q. q) s.0 (λ x q. plus-point q s.0) M.terms P.coefficients;
          remainder = plus_zero P.remainder (ap (reach t.monomial) s.1 ∙ reach_zero t.monomial);
        }

    gathered_pointed : (ts : List Term) (M : Model) → all_kept order ts ≡ true → AllByRecursion (λ t. Fits t.coefficient) ts → Points ts → Pointed M
        → Pointed (fold (gather k order) M ts)
    gathered_pointed [] M e F A P = P
    gathered_pointed (t ∷ ts) M e F A P =
        let h = and_parts (kept order t) (all_kept order ts) e in
        gathered_pointed ts _ h.1 F.1 A.1 (rw h.0 (keep_pointed M t F.0 A.0 P))

    product_pointed : (M N R : Model) → Pointed M → Pointed N → all_kept order (product_pairs k M N) ≡ true → product k m order M N ≡ Ok R → Pointed R
    product_pointed M N R P Q all e =
        let ps = pairs k.scale M.terms N.terms in
        let made = product_made k m order M N R e in
        let G = gathered_pointed ps zero_model all (all_fit_in ps (pairs_ordered k.scale (scale-above k) M.terms N.terms) made.hulls) (pairs-points M.terms N.terms P.coefficients Q.coefficients) (record { coefficients = tt; remainder = refl }) in
        rw made.is (record {
          coefficients = dropped-points (gathered k order ps).terms G.coefficients;
          remainder = plus_zero (plus_zero (plus_zero G.remainder (times_zero_at (m.range M.terms) N.remainder Q.remainder)) (times_zero_at (m.range N.terms) M.remainder P.remainder)) (times_zero_at M.remainder N.remainder Q.remainder);
        })

    times_pointed : (w v : Worked) (N : Model) → Pointed w.model → Pointed N → times_worked k m order w N ≡ Ok v → v.clean ≡ true → Pointed v.model
    times_pointed w v N P Q e c =
        let t = times_made k m order w v N e in
        let h = and_parts w.clean (all_kept order (product_pairs k w.model N)) (sym t.clean ∙ c) in
        product_pointed w.model N v.model P Q h.1 t.made

    -- what is clean in the end was clean all along
    clean-before : (n : ℕ) (w v : Worked) (N : Model) → raised k m order n w N ≡ Ok v → v.clean ≡ true → w.clean ≡ true
    unfolding raised
    clean-before zero w v N e c = ap (λ (u : Worked). u.clean) (same-value e) ∙ c
    clean-before (suc n) w v N e c =
        let a = and_then_ok (times_worked k m order w N) (λ u. raised k m order n u N) e in
        (and_parts w.clean (all_kept order (product_pairs k w.model N)) (sym (times_made k m order w a.0 N a.1).clean ∙ clean-before n a.0 v N a.2 c)).0

    raised_pointed : (n : ℕ) (w v : Worked) (N : Model) → Pointed w.model → Pointed N → raised k m order n w N ≡ Ok v → v.clean ≡ true → Pointed v.model
    unfolding raised
    raised_pointed zero w v N P Q e c = subst (λ (u : Worked). Pointed u.model) (same-value e) P
    raised_pointed (suc n) w v N P Q e c =
        let a = and_then_ok (times_worked k m order w N) (λ u. raised k m order n u N) e in
        raised_pointed n a.0 v N (times_pointed w a.0 N P Q a.1 (clean-before n a.0 v N a.2 c)) Q a.2 c

    power_pointed : (n : ℕ) (M : Model) (w : Worked) → Pointed M → power k m order n M ≡ Ok w → w.clean ≡ true → Pointed w.model
    unfolding power
    power_pointed zero M w P e c = rw (alone_made m (one k) true w e).0 (constant_pointed (interval (pos k.scale) (pos k.scale)) (one-fits k) refl)
    power_pointed (suc zero) M w P e c = rw (alone_made m M true w e).0 P
    power_pointed (suc (suc n)) M w P e c = raised_pointed (suc n) (worked M 0 true) w M P P e c

pub whole-exact : WholeExact
whole-exact k m order W = record {
  intervals = constant_pointed k W;
  constants = hull_pointed k W;
  variables = variable_pointed;
  sums = sum_pointed;
  differences = λ M N R P Q e. sum_pointed M (negated_model N) R P (negated_pointed N Q) e;
  products = product_pointed k W m order;
  worked_products = times_pointed k W m order;
  powers = power_pointed k W m order;
}
