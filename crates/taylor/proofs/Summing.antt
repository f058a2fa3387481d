-- Terms enter the places of a record one after the other: what then stands there, and when there is no room. Assumes nothing.
use Rattle.std.proofs.Common.{◌≡◌, ℕ, ◌+◌, ◌*◌, ◌<◌, ◌≤◌, leb, List, [], ◌∷◌, ◌++◌, map, length, get_or, take, drop, set, Some, None, is_some, Ok, Err, Option, Result, if◌then◌else◌, sym, refl, ap, ◌∙◌, subst, arith}
use Rattle.std.specs.Option.{ok_or}
use Rattle.std.specs.List.{AllByRecursion}
use Rattle.std.proofs.ByRecursion.{All-weaker, All-get_or}
use Rattle.std.proofs.lemmas.List.{at_drop_more, at_drop_all, get_or_default}
use Rattle.std.proofs.lemmas.List.Edits.{map_over_more}
use Rattle.std.proofs.lemmas.Option.{cond_some}
use Rattle.std.proofs.lemmas.Bool.{leb-true, leb-false, lt-leb, le-leb}
use Rattle.interval.specs.declared.marks.Interval.{Interval}
use Rattle.interval.specs.declared.reason.Reason.{Reason}
use Rattle.interval.specs.declared.reason.Reason.TheVariants.{TooManyMonomials}
use Rattle.interval.specs.Interval.{limit, Summable, plus}
use Rattle.interval.proofs.Sizes.{sized_weaken}
use Rattle.table.specs.Order.{by_degree}
use Rattle.table.specs.Slice.{over}
use Rattle.table.specs.Slice as slice
use Rattle.table.proofs.Growth.{folded_grows}
use Rattle.table.proofs.Packing.{packs_front, packs_long, packs-entered}
use Rattle.polynomial.specs.declared.term.Term.{Term}
use Rattle.polynomial.specs.Reach.{joined, zero_term, with_term, joins, dropped}
use Rattle.polynomial.specs.Terms.{new_count}
use Rattle.taylor.specs.declared.model.ModelRecord.{ModelRecord}
use Rattle.taylor.specs.Model.{Model, model, packed, unpacked}
use Rattle.taylor.specs.Form.{Formed, Draft, DraftTerm}
use Rattle.taylor.specs.Arithmetic.{opposite, negated_model, sum}
use Rattle.taylor.specs.Record.{Held, recorded}
use Rattle.interval.proofs.Passing.{none_chosen}
use Rattle.taylor.proofs.Drafts.{draft_more, draft-joins}
use Rattle.taylor.proofs.Forms.{negated_formed}
use Rattle.taylor.proofs.Keeps.{packing}
use Rattle.taylor.proofs.Packed.{Places, record_of, swept}

-- ---- one term enters

-- the answer o to entering, where it is a number
pub entered_some : {o : Option ℕ} {n : ℕ} {after : List Term} (full terms : List Term) → o ≡ Some n → after ≡ (if is_some o then full else terms) → after ≡ full
entered_some full terms e is = is ∙ ap (λ q. if is_some q then full else terms) e

pub entered_none : {o : Option ℕ} {e d : Reason} → o ≡ None → Err e ≡ ok_or o d → e ≡ d
entered_none {e = e} {d = d} n h = let q : ◌≡◌ {A = Result ℕ Reason} (Err e) (Err d) = h ∙ ap (λ p. ok_or p d) n in cc

module _ (terms : List Term) (count : ℕ) (ts : List Term) (p : Places terms count ts) (t : Term) where
  with_front : with_term (take count terms) t ≡ with_term ts t
  with_front = ap (λ us. with_term us t) (packs_front 40 _ terms count ts p)

  -- there was room for it
  pub term-entered : (after : List Term) (n : ℕ) → Some n ≡ new_count (length terms) (with_term (take count terms) t) → after ≡ over (with_term (take count terms) t) terms → Places after n (with_term ts t)
  term-entered after n e is =
      let h = cond_some (leb (length (with_term (take count terms) t)) (length terms)) (length (with_term (take count terms) t)) n (sym e) in
      let few = leb-true (length (with_term (take count terms) t)) (length terms) h.0 in
      packs-entered 40 _ terms count ts p by_degree (λ u. u.monomial) joined t after n (omega (arith, few, packs_long 40 _ terms count ts p)) is (sym h.1)

  -- there was none
  pub term_too_many : None ≡ new_count (length terms) (with_term (take count terms) t) → 40 < length (with_term ts t)
  term_too_many e =
      let many = leb-false (length (with_term (take count terms) t)) (length terms) (none_chosen _ _ e) in
      omega (arith, many, packs_long 40 _ terms count ts p, ap length with_front)

-- ---- a sum: the terms of `more` enter one by one

pub record Adding (more total : List Term) (i : ℕ) (terms : List Term) (count : ℕ) : Type 0 where
  pub long : length terms ≡ 40
  pub places : Places terms count (take count terms)
  pub rest : joins (take count terms) (drop i more) ≡ total
  pub draft : Draft 8 (limit + i * limit) (take count terms)
  pub few : length more ≤ 40
  pub each : AllByRecursion (DraftTerm 8 limit) more

module _ (more total : List Term) (i : ℕ) (terms : List Term) (count : ℕ) (A : Adding more total i terms count) where
  -- the term that comes can be joined to any other
  pub joinable : (d : Term) → i < length more → AllByRecursion (λ u. Summable u.coefficient × Summable (get_or more i d).coefficient) (take count terms)
  joinable d h =
      let few = A.few in
      let new : Summable (get_or more i d).coefficient = sized_weaken (omega arith) (All-get_or (DraftTerm 8 limit) more i d h A.each).sized in
      All-weaker (DraftTerm 8 (limit + i * limit)) (λ u. Summable u.coefficient × Summable (get_or more i d).coefficient) (λ u D. (sized_weaken (omega arith) D.sized, new)) (take count terms) A.draft.each

  one_more : (d : Term) → i < length more → joins (with_term (take count terms) (get_or more i d)) (drop (i + 1) more) ≡ total
  one_more d h = sym (at_drop_more (joins (take count terms)) more i d h) ∙ A.rest

  pub adding_more : (d : Term) → i < length more → (after : List Term) (n : ℕ) → Some n ≡ new_count (length terms) (with_term (take count terms) (get_or more i d))
      → after ≡ over (with_term (take count terms) (get_or more i d)) terms → Adding more total (i + 1) after n
  adding_more d h after n e is =
      let t = get_or more i d in
      let ts = take count terms in
      let P = term-entered terms count ts A.places t after n e is in
      let front : take n after ≡ with_term ts t = packs_front 40 _ after n (with_term ts t) P in
      record {
        long = packs_long 40 _ after n (with_term ts t) P;
        places = rw front P;
        rest = rw front (one_more d h);
        draft = rw front (draft_more (limit + (i + 1) * limit) (omega arith) (draft-joins (limit + i * limit) limit ts (t ∷ []) A.draft (All-get_or (DraftTerm 8 limit) more i d h A.each, tt)));
        few = A.few;
        each = A.each;
      }

  pub adding_full : (d : Term) → i < length more → None ≡ new_count (length terms) (with_term (take count terms) (get_or more i d)) → 40 < length total
  adding_full d h e =
      let t = get_or more i d in
      let ts = take count terms in
      let many = term_too_many terms count ts A.places t e in
      omega (arith, many, folded_grows by_degree (λ u. u.monomial) joined (with_term ts t) (drop (i + 1) more), ap length (one_more d h))

  pub adding_done : length more ≤ i → Places terms count total
  adding_done h = subst (Places terms count) (sym (at_drop_all (joins (take count terms)) more i h) ∙ A.rest) A.places

-- ---- the two ways out
module _ (M N : Model) where
  pub sum-refused : 40 < length (joins M.terms N.terms) → Err TooManyMonomials ≡ recorded (sum M N)
  unfolding sum
  sum-refused many = rw (lt-leb (length (joins M.terms N.terms)) 40 many) refl

  pub sum_comes : (terms : List Term) (count : ℕ) → Places terms count (joins M.terms N.terms) → (after : List Term) (n : ℕ) (r : Interval)
      → n ≡ length (dropped (take count terms)) → after ≡ over (slice.packed count zero_term (dropped (take count terms))) terms → r ≡ plus M.remainder N.remainder
      → Ok (record { count = n; terms = after; remainder = r }) ≡ recorded (sum M N)
  unfolding sum
  sum_comes terms count P after n r size is e =
      let few = P.fits in
      rw (le-leb (length (joins M.terms N.terms)) 40 few)
      (ap {B = Result ModelRecord Reason} Ok (record_of after n (dropped (joins M.terms N.terms)) r (swept terms count _ P after n size is) ∙ ap (λ j. packed (model (dropped (joins M.terms N.terms)) j)) e))

-- ---- the operands
operand : (r : ModelRecord) → Held limit r → Formed 8 limit (unpacked r)
operand r h = record { normal = h.canonical.normal; degrees = h.canonical.degrees; sized = h.sized }

-- ---- the other sign, term by term in place
pub turned_more : (ts us : List Term) (i : ℕ) (d : Term) {t : Term} → length us ≡ length ts → i < length ts → us ≡ map opposite (take i ts) ++ drop i ts → t ≡ opposite (get_or us i d)
    → set us i t ≡ map opposite (take (i + 1) ts) ++ drop (i + 1) ts
turned_more ts us i d long less is e = ap (set us i) e ∙ map_over_more opposite ts us i (get_or us i d) less is (get_or_default us i d (get_or us i d) (omega (arith, long)))

pub negated-held : (r : ModelRecord) → Held limit r → Held limit (packed (negated_model (unpacked r)))
negated-held r h =
    let F = negated_formed 8 limit (unpacked r) (operand r h) in
    record { canonical = packing.canonical limit (negated_model (unpacked r)) F; sized = rw (packing.back (negated_model (unpacked r))) F.sized }
