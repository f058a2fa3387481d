-- Every turn keeps the invariant, and so every reached sheet has it. Assumes nothing.
use Rattle.std.proofs.Common.{◌≡◌, ℕ, ◌-◌, Bool, eqb, ltb, [], length, Ok, Err, Result, sym, refl, ap, subst}
use Rattle.std.proofs.lemmas.List.Sums.{fold_push}
use Rattle.interval.specs.declared.refusal.Refusal.{Refusal}
use Rattle.interval.specs.Kind.{KindMeaning}
use Rattle.polynomial.specs.Method.{MethodMeaning}
use Rattle.taylor.proofs.Results.{same-value, and_then_ok, require_ok}
use Rattle.sheet.specs.State.{State, line_at, at_line, settled, known_office}
use Rattle.sheet.specs.Opening.{Opening}
use Rattle.sheet.specs.Posting.{line_for, posted}
use Rattle.sheet.specs.Narrowing.{narrowed}
use Rattle.sheet.specs.Striking.{struck}
use Rattle.sheet.specs.Turn.{Turn, Post, Narrow, Strike, ReadModel, ReadRange, ReadAccount, Answer, told, only_read, step}
use Rattle.sheet.specs.Reached.{event, Log, Reached, opens, turns}
use Rattle.sheet.specs.Standing.{Standing, stand, changed, after, standing}
use Rattle.formula.proofs.Faults.{at_line_ok}
use Rattle.sheet.proofs.Invariant.{Invariant, opening_keeps, posting_keeps, striking_keeps}
use Rattle.sheet.proofs.Narrowed.{narrowing_keeps}

module _ (k : KindMeaning) (m : MethodMeaning) (given : Opening) where
  settled_keeps : {A : Type 0} (what : Standing) (t : Turn) (f : A → Answer) (s : State) (r : Result (State × A) Refusal) → Invariant k m given what s →
      ((new : State) (a : A) → r ≡ Ok (new, a) → Invariant k m given (changed what t) new) →
      Invariant k m given (after what (event t (told f (settled s r)).answer)) (told f (settled s r)).state
  settled_keeps what t f s (Ok (new, a)) I g = g new a refl
  settled_keeps what t f s (Err e) I g = I

  reading_keeps : {A : Type 0} (what : Standing) (t : Turn) (f : A → Answer) (s : State) (r : Result A Refusal) → changed what t ≡ what → Invariant k m given what s →
      Invariant k m given (after what (event t (only_read f s r).answer)) s
  reading_keeps what t f s (Ok a) e I = rw e I
  reading_keeps what t f s (Err e) p I = I

  step_keeps : (what : Standing) (s : State) (t : Turn) → Invariant k m given what s → Invariant k m given (after what (event t (step k m s t).answer)) (step k m s t).state
  unfolding struck
  step_keeps what s (Post office records text) I = settled_keeps what (Post office records text) _ s (posted k m s office records text) I (λ new a q.
      let (l, p, e) = and_then_ok (at_line (length s.lines) (line_for k m s office records text)) _ q in
      subst (Invariant k m given (changed what (Post office records text))) (ap (λ (z : State × (ℕ × ℕ × Bool)). z.0) (same-value e))
      (posting_keeps k m given what s office records text l I (at_line_ok (length s.lines) (line_for k m s office records text) p)))
  step_keeps what s (Narrow office records v x y) I = settled_keeps what (Narrow office records v x y) _ s (narrowed k m s office records v x y) I (λ new a q. narrowing_keeps k m given what s office records v x y new a I q)
  step_keeps what s (Strike office) I = settled_keeps what (Strike office) _ s (struck s office) I (λ new a q.
      let (b, q1) = require_ok (known_office office) _ _ q in
      let (c, q2) = require_ok (ltb 0 (length s.lines)) _ _ q1 in
      let (d, q3) = require_ok (eqb (line_at s (length s.lines - 1)).office office) _ _ q2 in
      subst (Invariant k m given (changed what (Strike office))) (ap (λ (z : State × Unit). z.0) (same-value q3)) (striking_keeps k m given what s office I))
  step_keeps what s (ReadModel n) I = reading_keeps what (ReadModel n) _ s _ refl I
  step_keeps what s (ReadRange n) I = reading_keeps what (ReadRange n) _ s _ refl I
  step_keeps what s (ReadAccount office) I = reading_keeps what (ReadAccount office) _ s _ refl I

  -- what is reached keeps it
  pub reached_keeps : {log : Log} {s : State} → Reached k m given log s → Invariant k m given (standing given log) s
  reached_keeps (opens {s = s} e) = opening_keeps k m given s e
  reached_keeps (turns {log = log} {s = s} R t) =
      subst (λ (what : Standing). Invariant k m given what (step k m s t).state) (sym (fold_push after (stand given.ends []) log (event t (step k m s t).answer)))
      (step_keeps (standing given log) s t (reached_keeps R))
