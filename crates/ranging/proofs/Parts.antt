-- The parts of the quadratic range stay small, and add up one term at a time. Assumes nothing.
use Rattle.std.proofs.Common.{◌≡◌, ℕ, ◌+◌, ◌^◌, ◌<◌, ◌≤◌, ◌&&◌, eqb, List, length, get_or, drop, ℤ, sym, refl, subst, arith, lit≤}
use Rattle.std.proofs.ByRecursion.{All-get_or}
use Rattle.std.proofs.lemmas.Int.{ints}
use Rattle.std.proofs.lemmas.Bool.{cond_both}
use Rattle.interval.specs.declared.marks.Interval.{Interval}
use Rattle.interval.specs.Interval.{limit, zero_interval, plus, Sized, Bounded, Fits}
use Rattle.interval.proofs.Enclosure.{inside_ordered}
use Rattle.interval.proofs.Sizes.{sized_zero, sized-point, sized_weaken, sized-plus, sized-even, sized-full, lower_bounded}
use Rattle.table.specs.Monomial.{degree, even, root}
use Rattle.polynomial.specs.declared.term.Term.{Term}
use Rattle.polynomial.specs.Reach.{reach, coefficient_at}
use Rattle.polynomial.specs.Method.{FitTerm, Polynomial}
use Rattle.polynomial.specs.Quadratic.{joint, paired, part, parts, quadratic}
use Rattle.polynomial.proofs.Reaches.{one_unital, sized-reach}
use Rattle.polynomial.proofs.Coefficients.{unread, coefficient-fits}
use Rattle.polynomial.proofs.Joint.{inside-joint, joint_narrows}
use Rattle.ranging.proofs.Adding.{added, all_added}

-- no wider than the two reaches
joint-sized : (a b : ℤ) → Bounded limit a → Bounded limit b → Sized (2 ^ 48) (joint a b)
joint-sized a b f g =
    let w = joint_narrows a b in
    let s = sized-plus (sized-even (sized-point f)) (sized-full (sized-point g)) in
    let o = inside_ordered (inside-joint a b one_unital) in
    record { low = omega (arith, ints); order = o; high = omega (arith, ints) }

pub part-sized : (ts : List Term) (t : Term) → Polynomial ts → Fits t.coefficient → Sized (2 ^ 48) (part ts t)
part-sized ts t p f =
    let m = t.monomial in
    let plain-part = reach m t.coefficient in
    let small : Sized (2 ^ 48) plain-part = sized-reach m (sized_weaken (lit≤ tt) f) in
    cond_both (eqb (degree m) 1) _ _ (Sized (2 ^ 48))
    (λ _. cond_both (paired ts m) zero_interval plain-part (Sized (2 ^ 48)) (λ _. sized_zero (2 ^ 48)) (λ _. small))
    (λ _. cond_both (eqb (degree m) 2 && (even m && paired ts (root m))) (joint t.coefficient.lower (coefficient_at ts (root m)).lower) plain-part (Sized (2 ^ 48))
    (λ _. joint-sized t.coefficient.lower (coefficient_at ts (root m)).lower (lower_bounded f) (lower_bounded (coefficient-fits ts (root m) p))) (λ _. small))

-- ---- one term more, and all of them
pub term_fits : (ts : List Term) (i : ℕ) → i < length ts → Polynomial ts → Fits (get_or ts i unread).coefficient
term_fits ts i h p = (All-get_or FitTerm ts i unread h p.fit).fit

pub item-sized : (ts : List Term) (i : ℕ) (r : Interval) → i < length ts → Polynomial ts → r ≡ part ts (get_or ts i unread) → Sized (2 ^ 48) r
item-sized ts i r h p e = subst (Sized (2 ^ 48)) (sym e) (part-sized ts (get_or ts i unread) p (term_fits ts i h p))

pub part_more : (ts : List Term) (i : ℕ) (sum r : Interval) → i < length ts → r ≡ part ts (get_or ts i unread) → plus sum (parts ts (drop i ts)) ≡ parts ts ts → plus (plus sum r) (parts ts (drop (i + 1) ts)) ≡ parts ts ts
part_more ts = added (part ts) (parts ts) refl (λ t us. refl) ts

pub quadratic_all : (ts : List Term) (i : ℕ) (sum : Interval) → length ts ≤ i → plus sum (parts ts (drop i ts)) ≡ parts ts ts → sum ≡ quadratic ts
unfolding quadratic
quadratic_all ts = all_added (part ts) (parts ts) refl (λ t us. refl) ts
