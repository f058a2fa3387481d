-- The sheets that an accepted opening and turns after it lead to. Assumes nothing.
use Rattle.std.specs.Prelude.{◌≡◌, List, [], ◌∷◌, ◌++◌, Ok, Result}
use Rattle.interval.specs.declared.refusal.Refusal.{Refusal}
use Rattle.interval.specs.Kind.{KindMeaning}
use Rattle.polynomial.specs.Method.{MethodMeaning}
use Rattle.sheet.specs.State.{State}
use Rattle.sheet.specs.Opening.{Opening, open_sheet}
use Rattle.sheet.specs.Turn.{Turn, Answer, step, run}

-- a turn that was taken, with its answer
pub record Event : Type 0 where
  pub turn : Turn
  pub answer : Result Answer Refusal

abbrev pub event : Turn → Result Answer Refusal → Event
event t a = record { turn = t; answer = a }

-- the turns since the opening, the first first
abbrev pub Log : Type 0
Log = List Event

-- the log of some turns, one after the other
unfoldable pub logged : KindMeaning → MethodMeaning → State → List Turn → Log
logged k m s [] = []
logged k m s (t ∷ ts) = event t (step k m s t).answer ∷ logged k m (step k m s t).state ts

-- THE SHEET REACHED by an accepted opening and the turns of a log, each with the answer that the log has
pub data Reached (k : KindMeaning) (m : MethodMeaning) (given : Opening) : Log → State → Type 0 where
  opens : {s : State} → open_sheet k given ≡ Ok s → Reached k m given [] s
  turns : {log : Log} {s : State} → Reached k m given log s → (t : Turn) → Reached k m given (log ++ (event t (step k m s t).answer ∷ [])) (step k m s t).state

-- a list of turns after an accepted opening reaches the sheet after them
abbrev pub RunsReach : Type 0
RunsReach = (k : KindMeaning) (m : MethodMeaning) (given : Opening) (s : State) (ts : List Turn) → open_sheet k given ≡ Ok s → Reached k m given (logged k m s ts) (run k m s ts)

-- a log leads to one sheet
abbrev pub ReachedOnce : Type 0
ReachedOnce = (k : KindMeaning) (m : MethodMeaning) (given : Opening) (log : Log) (s t : State) → Reached k m given log s → Reached k m given log t → s ≡ t
