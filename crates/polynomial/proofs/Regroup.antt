-- The value of a paired linear term moves to its square, which leaves the sum over the terms as it was.
-- Assumes nothing.
use Rattle.std.proofs.Common.{◌≡◌, Bool, true, false, cond, ◌&&◌, eqb, List, pos, sym, refl, ap, ◌∙◌, arith}
use Rattle.std.proofs.ByRecursion.{All-weaker}
use Rattle.std.proofs.lemmas.Bool.{eqb-true, ne_eqb, and_left, and_right, cond-false}
use Rattle.rational.proofs.Solver.{Ring, lit, ◌⊕◌, ◌≈◌, ring2}
use Rattle.interval.specs.declared.marks.Interval.{Interval}
use Rattle.interval.specs.Interval.{zero_interval}
use Rattle.table.specs.Monomial.{degree, multiplied, even, root}
use Rattle.table.specs.Order.{by_degree}
use Rattle.table.specs.Table.{Ascending}
use Rattle.polynomial.specs.declared.term.Term.{Term}
use Rattle.polynomial.specs.Reach.{term, reach, coefficient_at}
use Rattle.polynomial.specs.Quadratic.{joint, point, paired, part}
use Rattle.polynomial.proofs.Totals.{total, regrouped}
use Rattle.polynomial.proofs.Standing.{under, one_under}
use Rattle.table.proofs.Monomials.{square-root}
use Rattle.polynomial.proofs.Pairs.{monomial_of, term-at, Own, all_own, Pair, square, same, square_or_root, pair_of}

-- ---- tests
nested : {A : Type 0} (a b : Bool) (x z : A) → cond a (cond b x z) z ≡ cond (a && b) x z
nested true b x z = refl
nested false b x z = refl

within_and : (a b c d : Bool) → (b ≡ true → c ≡ d) → ((a && b) && c) ≡ (a && (b && d))
within_and true true c d f = f refl
within_and true false c d f = refl
within_and false b c d f = refl

by_tests : {A B : Type 0} (P : A → B → Type 0) (one pair two : Bool) {a b c : A} {x y z : B} → P a x → (two ≡ true → P b y) → P c z
    → P (cond one (cond pair a c) (cond two b c)) (cond one (cond pair x z) (cond two y z))
by_tests P true true two f g h = f
by_tests P true false two f g h = h
by_tests P false pair true f g h = g refl
by_tests P false pair false f g h = h

module _ (R : Ring) (w : Term → Ring.carrier R) (ts : List Term) where
  open R use {carrier, add, of, add_comm}

  -- a term's value after the move
  abbrev pub moved : Term → carrier
  moved t =
      let m = t.monomial in
      cond (eqb (degree m) 1) (cond (paired ts m) (of (pos 0)) (w t))
      (cond (eqb (degree m) 2 && (even m && paired ts (root m))) (add (w t) (w (term-at ts (root m)))) (w t))

  -- what t gives to its square s, and s takes from its root t
  abbrev points : Term → Term → Bool
  points t s = point t.coefficient && point s.coefficient

  abbrev gives : Term → Term → carrier
  gives t s = cond (eqb (degree t.monomial) 1 && points t s) (w t) (of (pos 0))

  abbrev takes : Term → Term → carrier
  takes s t = cond (square s.monomial && points t s) (w t) (of (pos 0))

  abbrev passed : Term → Term → carrier
  passed t s = under by_degree monomial_of R (gives t) (multiplied t.monomial t.monomial) s

  passed_is : (t s : Term) → passed t s ≡ under by_degree monomial_of R (takes s) (root s.monomial) t
  passed_is t s =
      let n = t.monomial in
      let m = s.monomial in
      nested (same m (multiplied n n)) (eqb (degree n) 1 && points t s) (w t) (of (pos 0))
      ∙ ap (λ b. cond b (w t) (of (pos 0))) (square_or_root n m (points t s))
      ∙ sym (nested (same n (root m)) (square m && points t s) (w t) (of (pos 0)))

  -- what t gives in all, and what s takes in all
  module _ (a : Ascending by_degree monomial_of ts) where
    given : (t : Term) → Own ts t → total R (passed t) ts ≡ cond (eqb (degree t.monomial) 1 && paired ts t.monomial) (w t) (of (pos 0))
    given t own =
        let m = t.monomial in
        one_under by_degree monomial_of R (gives t) (term (multiplied m m) zero_interval) ts (multiplied m m)
        (cond-false (eqb (degree m) 1 && (point t.coefficient && false)) (w t) (of (pos 0)) (and_right (eqb (degree m) 1) (point t.coefficient && false) (and_right (point t.coefficient) false refl))) a
        ∙ ap (λ c. cond (eqb (degree m) 1 && (point c && point (coefficient_at ts (multiplied m m)))) (w t) (of (pos 0))) (sym own)

    taken : (s : Term) → Own ts s → total R (λ t. passed t s) ts ≡ cond (eqb (degree s.monomial) 2 && (even s.monomial && paired ts (root s.monomial))) (w (term-at ts (root s.monomial))) (of (pos 0))
    taken s own =
        let m = s.monomial in
        ap (λ f. total R f ts) (λ i t. passed_is t s i)
        ∙ one_under by_degree monomial_of R (takes s) (term (root m) zero_interval) ts (root m) (cond-false (square m && false) (w (term (root m) zero_interval)) (of (pos 0)) (and_right (square m) false refl)) a
        ∙ ap (λ b. cond b (w (term-at ts (root m))) (of (pos 0))) (within_and (eqb (degree m) 2) (even m) (point (coefficient_at ts (root m)) && point s.coefficient) (paired ts (root m))
        (λ h. ap (λ c. point (coefficient_at ts (root m)) && point c) (sym own ∙ ap (coefficient_at ts) (sym (square-root m h)))))

    -- no term both gives and takes
    balance : (one two pair : Bool) (v u : carrier) → (one ≡ true → two ≡ false)
        → add (cond one (cond pair (of (pos 0)) v) (cond two (add v u) v)) (cond (one && pair) v (of (pos 0))) ≡ add v (cond two u (of (pos 0)))
    balance true two true v u f = rw (f refl) (add_comm (of (pos 0)) v)
    balance true two false v u f = rw (f refl) refl
    balance false true pair v u f = ring2 R (λ v u. (v ⊕ u) ⊕ lit (pos 0) ≈ v ⊕ u) tt v u
    balance false false pair v u f = refl

    pub regrouping : total R moved ts ≡ total R w ts
    regrouping = regrouped R w moved passed ts (All-weaker (Own ts) _ balanced ts (all_own ts a))
      where
        balanced : (t : Term) → Own ts t → add (moved t) (total R (passed t) ts) ≡ add (w t) (total R (λ s. passed s t) ts)
        balanced t own =
            let m = t.monomial in
            rw (given t own, taken t own) (balance (eqb (degree m) 1) (eqb (degree m) 2 && (even m && paired ts (root m))) (paired ts m) (w t) (w (term-at ts (root m)))
            (λ h. let d = eqb-true (degree m) 1 h in and_left (eqb (degree m) 2) (even m && paired ts (root m)) (ne_eqb (degree m) 2 (λ e. omega arith))))

  -- a term's part beside its value after the move
  pub by_part : (P : Interval → carrier → Type 0) (t : Term) → Own ts t → P zero_interval (of (pos 0))
      → (Pair t (term-at ts (root t.monomial)) → P (joint t.coefficient.lower (term-at ts (root t.monomial)).coefficient.lower) (add (w t) (w (term-at ts (root t.monomial)))))
      → P (reach t.monomial t.coefficient) (w t) → P (part ts t) (moved t)
  by_part P t own none pair plain =
      let m = t.monomial in
      let two = eqb (degree m) 2 && (even m && paired ts (root m)) in
      by_tests P (eqb (degree m) 1) (paired ts m) two none (λ h. pair (pair_of ts t own h)) plain
