-- Narrowings told the truth: a log leads through the sheet before each of its turns, and an accepted narrowing there is a rework.
-- Assumes nothing.
use Rattle.std.proofs.Common.{◌≡◌, ℕ, List, [], ◌∷◌, ◌++◌, length, get_or, Ok, Err, Result, sym, refl, ap, ◌∙◌, subst, append_assoc, arith}
use lib.Ieee.{Float}
use Rattle.std.proofs.lemmas.List.{length-append, same_from_push}
use Rattle.interval.specs.declared.refusal.Refusal.{Refusal}
use Rattle.interval.specs.Kind.{KindMeaning}
use Rattle.polynomial.specs.Method.{MethodMeaning}
use Rattle.taylor.proofs.Results.{same-value, not_refused}
use Rattle.formula.specs.Work.{no_line}
use Rattle.formula.specs.Meaning.{uses}
use Rattle.sheet.specs.State.{line, State, texts, settled}
use Rattle.sheet.specs.Opening.{Opening}
use Rattle.sheet.specs.Narrowing.{narrowed}
use Rattle.sheet.specs.Turn.{Narrow, Narrowed, told, step}
use Rattle.sheet.specs.Reached.{Event, event, Log, Reached, opens, turns}
use Rattle.sheet.specs.Standing.{standing}
use Rattle.sheet.specs.Promise.{marked_pairs, ToldTruth, NarrowingsTrue}
use Rattle.sheet.proofs.Accepting.{narrows}
use Rattle.sheet.proofs.Narrowed.{narrow_reworks}
use Rattle.sheet.proofs.Kept.{reached_keeps}

-- a list that is not empty has a last element
last_of : {A : Type 0} (x : A) (xs : List A) → (ys : List A) × (y : A) × (x ∷ xs ≡ ys ++ (y ∷ []))
last_of x [] = ([], x, refl)
last_of x (z ∷ zs) = let (ys, y, e) = last_of z zs in (x ∷ ys, y, ap (λ l. x ∷ l) e)

module _ (k : KindMeaning) (m : MethodMeaning) (given : Opening) where
  -- the sheet before a turn of the log, and that the log has its answer
  before-turn : {log : Log} {s : State} → Reached k m given log s → (earlier : Log) (e : Event) (later : Log) → log ≡ earlier ++ (e ∷ later) →
      (before : State) × Reached k m given earlier before × ((step k m before e.turn).answer ≡ e.answer)
  before-turn (opens q) earlier e later p = absurd (omega (arith, ap length p, length-append earlier (e ∷ later)))
  before-turn (turns {log = log} {s = s} R t) earlier e [] p =
      let (a, b) = same_from_push log earlier (event t (step k m s t).answer) e p in
      (s, subst (λ l. Reached k m given l s) a R, subst (λ (x : Event). (step k m s x.turn).answer ≡ x.answer) b refl)
  before-turn (turns {log = log} {s = s} R t) earlier e (x ∷ later) p =
      let (ys, y, q) = last_of x later in
      let shifted : earlier ++ (e ∷ (x ∷ later)) ≡ (earlier ++ (e ∷ ys)) ++ (y ∷ []) = ap (λ l. earlier ++ (e ∷ l)) q ∙ sym (append_assoc earlier (e ∷ ys) (y ∷ [])) in
      before-turn R earlier e ys (same_from_push log (earlier ++ (e ∷ ys)) (event t (step k m s t).answer) y (p ∙ shifted)).0

  -- an accepted narrowing
  accepted : (s : State) (r : Result (State × (ℕ × ℕ)) Refusal) (lines pairs : ℕ) → (told (λ a. Narrowed a.0 a.1) (settled s r)).answer ≡ Ok (Narrowed lines pairs) →
      r ≡ Ok ((told (λ a. Narrowed a.0 a.1) (settled s r)).state, (lines, pairs))
  accepted s (Ok (new, a)) lines pairs q =
      let same = same-value q in
      let l : a.0 ≡ lines = cc in
      let p : a.1 ≡ pairs = cc in
      λ i. Ok (new, (l i, p i))
  accepted s (Err e) lines pairs q = absurd (not_refused q)

  -- it told the truth
  told_truth : (earlier : Log) (before : State) (office records v : ℕ) (x y : Float) (lines pairs : ℕ) → Reached k m given earlier before →
      (step k m before (Narrow office records v x y)).answer ≡ Ok (Narrowed lines pairs) →
      ToldTruth (uses v (standing given earlier).texts) before (step k m before (Narrow office records v x y)).state lines pairs
  told_truth earlier before office records v x y lines pairs R q =
      let I = reached_keeps k m given R in
      let after = (step k m before (Narrow office records v x y)).state in
      let N = narrows k m before office records v x y after (lines, pairs) (accepted before (narrowed k m before office records v x y) lines pairs q) in
      let W = narrow_reworks k m before v x y after (lines, pairs) I.follow N in
      let new : after.lines ≡ W.rest = ap (λ (s : State). s.lines) N.is ∙ W.lines in
      subst (λ ts. ToldTruth (uses v ts) before after lines pairs) I.same-texts (record {
        how_many = ap (λ (a : ℕ × ℕ). a.0) N.tells ∙ W.count ∙ omega arith;
        how_much = ap (λ (a : ℕ × ℕ). a.1) N.tells ∙ W.pairs ∙ omega arith ∙ ap (λ ls. marked_pairs ls (uses v (texts before.lines))) (sym new);
        others = λ n u. ap (λ ls. get_or ls n (line 0 [] no_line)) new ∙ W.others n u;
      })

  pub narrowings_true : {log : Log} {s : State} → Reached k m given log s → NarrowingsTrue k m given log
  narrowings_true R earlier later office records v x y lines pairs e =
      let narrowing = event (Narrow office records v x y) (Ok (Narrowed lines pairs)) in
      let (before, B, q) = before-turn R earlier narrowing later e in
      let after = (step k m before (Narrow office records v x y)).state in (
        before,
        after,
        B,
        subst (λ a. Reached k m given (earlier ++ (event (Narrow office records v x y) a ∷ [])) after) q (turns B (Narrow office records v x y)),
        told_truth earlier before office records v x y lines pairs B q,
      )
