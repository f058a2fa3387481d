-- A log leads to one sheet, which is that after its turns; and a list of turns leads to the sheet after them. Assumes nothing.
use Rattle.std.proofs.Common.{◌≡◌, List, [], ◌∷◌, ◌++◌, map, Ok, Result, sym, refl, ap, ◌∙◌, subst, append_assoc, append-nil}
use Rattle.std.proofs.lemmas.List.{map_push}
use Rattle.interval.specs.declared.refusal.Refusal.{Refusal}
use Rattle.interval.specs.Kind.{KindMeaning}
use Rattle.polynomial.specs.Method.{MethodMeaning}
use Rattle.taylor.proofs.Results.{same-value}
use Rattle.sheet.specs.State.{State, Outcome, outcome}
use Rattle.sheet.specs.Opening.{Opening, open_sheet}
use Rattle.sheet.specs.Turn.{Turn, Answer, step, run}
use Rattle.sheet.specs.Reached.{Event, event, Log, logged, Reached, opens, turns, RunsReach, ReachedOnce}

module _ (k : KindMeaning) (m : MethodMeaning) where
  run-push : (s : State) (ts : List Turn) (t : Turn) → run k m s (ts ++ (t ∷ [])) ≡ (step k m (run k m s ts) t).state
  unfolding run
  run-push s [] t = refl
  run-push s (x ∷ ts) t = run-push (step k m s x).state ts t

  module _ (given : Opening) where
    -- one turn, as a call tells it: what it leaves and what it answers
    pub reach-turn : {log : Log} {s new : State} {a : Result Answer Refusal} (t : Turn) → outcome new a ≡ step k m s t → Reached k m given log s →
        Reached k m given (log ++ (event t a ∷ [])) new
    reach-turn {log} t e R = subst (λ (o : Outcome Answer). Reached k m given (log ++ (event t o.answer ∷ [])) o.state) (sym e) (turns R t)

    -- further turns, one after the other
    reach_more : (ts : List Turn) {log : Log} {s : State} → Reached k m given log s → Reached k m given (log ++ logged k m s ts) (run k m s ts)
    unfolding logged run
    reach_more [] {log} {s} R = subst (λ l. Reached k m given l s) (sym (append-nil log)) R
    reach_more (t ∷ ts) {log} {s} R =
        subst (λ l. Reached k m given l (run k m (step k m s t).state ts)) (append_assoc log (event t (step k m s t).answer ∷ []) (logged k m (step k m s t).state ts))
        (reach_more ts (turns R t))

    -- the sheet after the turns of the log
    reached_run : {log : Log} {s : State} → Reached k m given log s → (first : State) × (open_sheet k given ≡ Ok first) × (run k m first (map (λ (e : Event). e.turn) log) ≡ s)
    unfolding run
    reached_run (opens {s = s} e) = (s, e, refl)
    reached_run (turns {log = log} {s = s} R t) =
        let (first, o, r) = reached_run R in
        (first, o, ap (run k m first) (map_push (λ (e : Event). e.turn) log (event t (step k m s t).answer)) ∙ run-push first (map (λ (e : Event). e.turn) log) t ∙ ap (λ x. (step k m x t).state) r)

pub runs_reach : RunsReach
runs_reach k m given s ts o = reach_more k m given ts (opens o)

pub reached_once : ReachedOnce
reached_once k m given log s t R Q =
    let (a, oa, ra) = reached_run k m given R in
    let (b, ob, rb) = reached_run k m given Q in
    sym ra ∙ ap (λ x. run k m x (map (λ (e : Event). e.turn) log)) (same-value (sym oa ∙ ob)) ∙ rb
