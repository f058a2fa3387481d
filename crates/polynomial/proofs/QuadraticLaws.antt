-- The quadratic range keeps the laws of a method: the regrouped plain range bounds it term by term, and each of its parts
-- holds the regrouped value.
-- Assumes nothing.
use Rattle.std.proofs.Common.{◌≡◌, Bool, true, false, not, ◌&&◌, eqb, List, [], ◌∷◌, ℤ, pos, ◌+ℤ◌, ◌≤ℤ◌, sym, refl, ap, ◌∙◌, subst, ap₂, arith}
use lib.Signed.{le_z}
use Rattle.std.proofs.lemmas.Int.{ints}
use Rattle.std.specs.List.{AllByRecursion}
use Rattle.std.proofs.lemmas.Bool.{and_parts, ne_eqb, cond-true, cond-false}
use Rattle.rational.specs.Fraction.{Fraction}
use Rattle.rational.proofs.Whole.{ℤ_ring}
use Rattle.rational.proofs.Rational.{◌+ℚ◌, ◌*ℚ◌, of, ℚ_ring}
use Rattle.rational.proofs.Order.{≤ℚ_refl}
use Rattle.interval.specs.declared.marks.Interval.{Interval}
use Rattle.interval.specs.Interval.{interval, is_zero, plus, even_reach, full_reach}
use Rattle.interval.proofs.Enclosure.{◌inside◌, inside-sum}
use Rattle.table.specs.Monomial.{Monomial, degree, multiplied, even, root}
use Rattle.polynomial.specs.declared.term.Term.{Term}
use Rattle.polynomial.specs.Reach.{reach}
use Rattle.polynomial.specs.Value.{Units}
use Rattle.polynomial.specs.Method.{FitTerm, Polynomial, plain, Within}
use Rattle.polynomial.specs.Laws.{QuadraticLawful}
use Rattle.polynomial.specs.Quadratic.{joint, point, part, parts, quadratic}
use Rattle.polynomial.proofs.Reaches.{value, value_unital}
use Rattle.polynomial.proofs.Totals.{total}
use Rattle.polynomial.proofs.Choices.{Choice, chosen, holds_by}
use Rattle.polynomial.proofs.PlainLaws.{reach-chosen}
use Rattle.polynomial.proofs.Joint.{quad, inside-joint, joint_narrows}
use Rattle.table.proofs.Monomials.{degree-product, even-square, square-root}
use Rattle.polynomial.proofs.Products.{value-product}
use Rattle.polynomial.proofs.Pairs.{Pair, Own, all_own, term-at}
use Rattle.polynomial.proofs.Regroup.{moved, regrouping, by_part}

-- ---- the reach of a pair
point_is : (c : Interval) → point c ≡ true → c ≡ interval c.lower c.lower
point_is c h =
    let f = and_parts (not (is_zero c)) (le_z c.upper c.lower && le_z c.lower c.upper) h in
    let g = and_parts (le_z c.upper c.lower) (le_z c.lower c.upper) f.1 in
    ap (interval c.lower) (omega (arith, ints))

linear_odd : (m : Monomial) → degree m ≡ 1 → even m ≡ false
linear_odd m d = go (even m) refl
  where
    go : (b : Bool) → even m ≡ b → b ≡ false
    go true e = absurd (omega (arith, degree-product (root m) (root m) refl, ap degree (square-root m e)))
    go false e = refl

-- the reaches of a pair's two terms
square-reach : {s l : Term} → Pair s l → reach s.monomial s.coefficient ≡ even_reach (interval s.coefficient.lower s.coefficient.lower)
square-reach {s} {l} p =
    let n = l.monomial in
    let u = p.unit in
    let d : eqb (degree (multiplied n n)) 0 ≡ false = ne_eqb (degree (multiplied n n)) 0 (λ z. omega (arith, degree-product n n refl)) in
    ap₂ reach p.squared (point_is s.coefficient p.square-point) ∙ cond-false _ _ _ d ∙ cond-true _ _ _ (even-square n)

linear-reach : {s l : Term} → Pair s l → reach l.monomial l.coefficient ≡ full_reach (interval l.coefficient.lower l.coefficient.lower)
linear-reach {s} {l} p =
    let n = l.monomial in
    let u = p.unit in
    let d : eqb (degree n) 0 ≡ false = ne_eqb (degree n) 0 (λ z. omega arith) in
    ap (reach n) (point_is l.coefficient p.linear-point) ∙ cond-false _ _ _ d ∙ cond-false _ _ _ (linear_odd n u)

pair_narrows : {s l : Term} → Pair s l → Within (joint s.coefficient.lower l.coefficient.lower) (plus (reach s.monomial s.coefficient) (reach l.monomial l.coefficient))
pair_narrows {s} {l} p = subst (Within (joint s.coefficient.lower l.coefficient.lower)) (ap₂ plus (sym (square-reach p)) (sym (linear-reach p))) (joint_narrows s.coefficient.lower l.coefficient.lower)

sums_≤ : {a b c d : ℤ} → a ≤ℤ b → c ≤ℤ d → (a +ℤ c) ≤ℤ (b +ℤ d)
sums_≤ h k = omega (arith, ints)

module _ (ts : List Term) (p : Polynomial ts) where
  -- ---- within the plain range
  abbrev low : Term → ℤ
  low t = (reach t.monomial t.coefficient).lower

  abbrev high : Term → ℤ
  high t = (reach t.monomial t.coefficient).upper

  low_le : (t : Term) → Own ts t → moved ℤ_ring low ts t ≤ℤ (part ts t).lower
  low_le t own = by_part ℤ_ring low ts (λ i x. x ≤ℤ i.lower) t own (omega (arith, ints)) (λ q. (pair_narrows q).low) (omega (arith, ints))

  high_le : (t : Term) → Own ts t → (part ts t).upper ≤ℤ moved ℤ_ring high ts t
  high_le t own = by_part ℤ_ring high ts (λ i x. i.upper ≤ℤ x) t own (omega (arith, ints)) (λ q. (pair_narrows q).high) (omega (arith, ints))

  parts_within : (us : List Term) → AllByRecursion (Own ts) us → Within (parts ts us) (interval (total ℤ_ring (moved ℤ_ring low ts) us) (total ℤ_ring (moved ℤ_ring high ts) us))
  parts_within [] own = record { low = omega (arith, ints); high = omega (arith, ints) }
  parts_within (t ∷ us) own =
      let r = parts_within us own.1 in
      record { low = sums_≤ (low_le t own.0) r.low; high = sums_≤ (high_le t own.0) r.high }

  plain_is : (us : List Term) → plain us ≡ interval (total ℤ_ring low us) (total ℤ_ring high us)
  unfolding plain
  plain_is [] = refl
  plain_is (t ∷ us) = ap (plus (reach t.monomial t.coefficient)) (plain_is us)

  quadratic-within : Within (quadratic ts) (plain ts)
  unfolding quadratic
  quadratic-within =
      let r = parts_within ts (all_own ts p.ascends) in
      rw (plain_is ts, ← regrouping ℤ_ring low ts p.ascends, ← regrouping ℤ_ring high ts p.ascends) r

  -- ---- holds the value
  module _ (us : List Fraction) (U : Units us) (choose : Term → ℤ) (choice : Choice choose) where
    point_choice : (t : Term) → point t.coefficient ≡ true → choose t ≡ t.coefficient.lower
    point_choice t h =
        let e = ap (λ c. c.upper) (point_is t.coefficient h) in
        let k = choice t (omega (arith, ints)) in
        omega (arith, ints)

    pair-value : {s l : Term} → Pair s l → chosen us choose s +ℚ chosen us choose l ≡ quad (of s.coefficient.lower) (of l.coefficient.lower) (value us l.monomial)
    pair-value {s} {l} q =
        rw (point_choice s q.square-point, point_choice l q.linear-point)
        (ap (λ m. of s.coefficient.lower *ℚ value us m +ℚ of l.coefficient.lower *ℚ value us l.monomial) q.squared
        ∙ ap (λ v. of s.coefficient.lower *ℚ v +ℚ of l.coefficient.lower *ℚ value us l.monomial) (value-product us l.monomial l.monomial refl))

    part-holds : (t : Term) → Own ts t → FitTerm t → moved ℚ_ring (chosen us choose) ts t inside part ts t
    part-holds t own f = by_part ℚ_ring (chosen us choose) ts (λ i x. x inside i) t own
        (record { low = ≤ℚ_refl (of (pos 0)); high = ≤ℚ_refl (of (pos 0)) })
        (λ q. rw (pair-value q) (inside-joint t.coefficient.lower (term-at ts (root t.monomial)).coefficient.lower (value_unital us U (term-at ts (root t.monomial)).monomial)))
        (reach-chosen us U choose choice t f)

    parts_hold : (vs : List Term) → AllByRecursion (Own ts) vs → AllByRecursion FitTerm vs → total ℚ_ring (moved ℚ_ring (chosen us choose) ts) vs inside parts ts vs
    parts_hold [] own f = record { low = ≤ℚ_refl (of (pos 0)); high = ≤ℚ_refl (of (pos 0)) }
    parts_hold (t ∷ vs) own f = inside-sum (part-holds t own.0 f.0) (parts_hold vs own.1 f.1)

    quadratic-holds : total ℚ_ring (chosen us choose) ts inside quadratic ts
    unfolding quadratic
    quadratic-holds = rw (← regrouping ℚ_ring (chosen us choose) ts p.ascends) (parts_hold ts (all_own ts p.ascends) p.fit)

pub quadratic_lawful : QuadraticLawful
quadratic_lawful ts p = record { within = quadratic-within ts p; holds = λ us U. holds_by us ts (quadratic ts) (quadratic-holds ts p us U) }
