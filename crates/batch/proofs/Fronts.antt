-- What a slice of 40 places holds once a term has entered the terms in its front.
use Rattle.std.proofs.Common.{◌≡◌, ℕ, ◌-◌, ◌≤◌, Bool, true, false, cond, leb, List, length, take, drop, is_some, Some, Ok, Err, Option, sym, ap, ◌∙◌, arith, length-append, length-drop, length-take, le-leb, leb-true}
use native.Mathlib.Nat.{sub-zero}
use Rattle.std.proofs.lemmas.Option.{cond_some}
use lib.Seq.{take-append_seam}
use Rattle.interval.specs.declared.reason.Reason.TheVariants.{DoesNotFit}
use Rattle.polynomial.specs.declared.term.Term.{Term}
use Rattle.table.specs.Slice.{over}
use Rattle.polynomial.specs.Reach.{with_term}
use Rattle.polynomial.specs.Terms.{all_fit, new_count}
use Rattle.batch.specs.Drafts.{canonical, admitted}
use Rattle.batch.proofs.Canonical.{Fitting, with_term_canonical}

-- the first n places of a slice of 40 hold E
pub record Front (E slice : List Term) (n : ℕ) : Type 0 where
  pub few : n ≤ 40
  pub long : length slice ≡ 40
  pub front : take n slice ≡ E

pub fronts : (old new E : List Term) (r : Option ℕ) (n : ℕ) → length old ≡ 40 → r ≡ Some n → r ≡ new_count (length old) E → new ≡ cond (is_some r) (over E old) old → Front E new n
fronts old new E r n h some e o =
    let p = cond_some (leb (length E) (length old)) (length E) n (sym e ∙ some) in
    let few : length E ≤ length old = leb-true (length E) (length old) p.0 in
    let after : new ≡ over E old = rw some at o in
    record {
      few = omega (arith, p.1);
      long = ap length after ∙ length-append E (drop (length E) old) ∙ omega (arith, length-drop (length E) old);
      front = rw (after, ← p.1) (take-append_seam E (drop (length E) old));
    }

module _ (ts : List Term) (t : Term) where
  module _ (slice : List Term) (n : ℕ) (f : Front (with_term ts t) slice n) where
    few : leb (length (with_term ts t)) 40 ≡ true
    few = le-leb _ 40 (omega (arith, f.few, ap length f.front, length-take n slice))

    -- the part [0..n] of the slice is lent to the test
    whole : (b : Bool) → all_fit (take (n - 0) slice) ≡ b → all_fit (with_term ts t) ≡ b
    whole b e = ap all_fit (sym f.front) ∙ ap (λ m. all_fit (take m slice)) (sym (sub-zero n)) ∙ e

    pub unfit : all_fit (take (n - 0) slice) ≡ false → Err DoesNotFit ≡ admitted ts t
    unfolding admitted
    unfit e = let w = whole false e in rw (few, w)

    pub taken : all_fit (take (n - 0) slice) ≡ true → Ok tt ≡ admitted ts t
    unfolding admitted
    taken e = let w = whole true e in rw (few, w)

    pub sound : canonical ts ≡ true → Fitting t → all_fit (take (n - 0) slice) ≡ true → canonical (take n slice) ≡ true
    sound c h e = rw f.front (with_term_canonical ts t c h (whole true e))
