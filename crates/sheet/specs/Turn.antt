-- Turns: what a sheet is asked, what it answers, and how it changes. Assumes nothing.
use Rattle.std.specs.Prelude.{ℕ, Bool, List, [], ◌∷◌, Result, Float}
use Rattle.std.specs.Result.{result_map_both}
use Rattle.interval.specs.declared.marks.Interval.{Interval}
use Rattle.interval.specs.declared.refusal.Refusal.{Refusal}
use Rattle.interval.specs.Kind.{KindMeaning}
use Rattle.polynomial.specs.Method.{MethodMeaning}
use Rattle.taylor.specs.Model.{Model}
use Rattle.sheet.specs.State.{State, Outcome, outcome}
use Rattle.sheet.specs.Posting.{post}
use Rattle.sheet.specs.Narrowing.{narrow}
use Rattle.sheet.specs.Striking.{strike}
use Rattle.sheet.specs.Reading.{read_model, read_range, read_account}

-- a posting and a narrowing say how many working records they lend
pub data Turn : Type 0 where
  Post : (office records : ℕ) (text : List ℕ) → Turn
  Narrow : (office records variable : ℕ) (lower upper : Float) → Turn
  Strike : (office : ℕ) → Turn
  ReadModel : (line : ℕ) → Turn
  ReadRange : (line : ℕ) → Turn
  ReadAccount : (office : ℕ) → Turn

-- what an accepted turn answers
pub data Answer : Type 0 where
  Posted : (line pairs : ℕ) (clean : Bool) → Answer
  Narrowed : (lines pairs : ℕ) → Answer
  Struck : Answer
  ModelIs : Model → Answer
  RangeIs : Interval → Answer
  PairsAre : ℕ → Answer

-- an outcome, with its answer in these words
abbrev pub told : {A : Type 0} → (A → Answer) → Outcome A → Outcome Answer
told f o = outcome o.state (result_map_both f (λ e. e) o.answer)

-- a reading leaves the sheet as it is
abbrev pub only_read : {A : Type 0} → (A → Answer) → State → Result A Refusal → Outcome Answer
only_read f s r = outcome s (result_map_both f (λ e. e) r)

module _ (k : KindMeaning) (m : MethodMeaning) where
  -- ONE TURN: the sheet that it leaves, and its answer or refusal
  abbrev pub step : State → Turn → Outcome Answer
  step s (Post office records text) = told (λ a. Posted a.0 a.1 a.2) (post k m s office records text)
  step s (Narrow office records v x y) = told (λ a. Narrowed a.0 a.1) (narrow k m s office records v x y)
  step s (Strike office) = told (λ _. Struck) (strike s office)
  step s (ReadModel n) = only_read ModelIs s (read_model s n)
  step s (ReadRange n) = only_read RangeIs s (read_range m s n)
  step s (ReadAccount office) = only_read PairsAre s (read_account s office)

  -- the sheet after some turns
  unfoldable pub run : State → List Turn → State
  run s [] = s
  run s (t ∷ ts) = run (step s t).state ts

  -- what they answered
  unfoldable pub answers : State → List Turn → List (Result Answer Refusal)
  answers s [] = []
  answers s (t ∷ ts) = (step s t).answer ∷ answers (step s t).state ts
