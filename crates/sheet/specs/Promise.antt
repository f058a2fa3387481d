-- THE PROMISE of a sheet, in five parts: for every kind of coefficient, every ranging method, every accepted opening and every log of
-- turns after it. Assumes nothing.
use Rattle.std.specs.Prelude.{◌≡◌, ℕ, ◌+◌, ◌<◌, ◌≤◌, Bool, true, false, cond, List, [], ◌∷◌, ◌++◌, map, length, is_ok, Some, Ok, count_by, slice_index_or, Float}
use Rattle.std.specs.List.{AllByRecursion}
use Rattle.rational.specs.Fraction.{Fraction}
use Rattle.interval.specs.declared.variable.Variable.{Variable as Var}
use Rattle.interval.specs.Kind.{KindMeaning}
use Rattle.polynomial.specs.Method.{MethodMeaning}
use Rattle.taylor.specs.Box.{InBox, units}
use Rattle.taylor.specs.Exactness.{Whole}
use Rattle.formula.specs.Meaning.{uses, built_from, exact_marks}
pub use Rattle.formula.specs.WorkLaws.{InBounds, WholeToken, ExactModel}
use Rattle.sheet.specs.Box.{box_of, given_ends}
use Rattle.sheet.specs.State.{Line as SheetLine, State, texts, workeds, line_at, model_at}
use Rattle.sheet.specs.Opening.{Opening, opening, open_sheet, largest_allowance}
use Rattle.sheet.specs.Turn.{Turn, Post, Narrow, Narrowed, run, answers}
use Rattle.sheet.specs.Reached.{Log, event, Reached}
use Rattle.sheet.specs.Standing.{Standing, standing}

-- the box that the standing ends make at the kind's scale
abbrev pub standing_box : KindMeaning → Standing → List Var
standing_box k what = box_of k what.ends

-- ---- 1. What stands is there: the ends as they were given, the box that they make, and line n has standing text n
pub record StandsThere (k : KindMeaning) (what : Standing) (s : State) : Type 0 where
  pub ends : given_ends s.box ≡ what.ends
  pub box : s.box ≡ standing_box k what
  pub lines : texts s.lines ≡ what.texts

-- ---- 2. Bounds hold

-- at every point of the standing box every line has an exact value; in marks it lies between the two ends of the line's model at the unit
-- coordinates, and in the line's range
abbrev pub BoundsHold : KindMeaning → MethodMeaning → Standing → State → Type 0
BoundsHold k m what s = (point : List Fraction) → InBox (standing_box k what) point → (n : ℕ) → n < length what.texts →
    (v : Fraction) × (exact_marks k.scale point what.texts n ≡ Some v) × InBounds m (units (standing_box k what) point) (model_at s n) v

-- ---- 3. Same as a new sheet

-- one office posts the texts, from first to last, and lends so many records each time
abbrev pub postings : ℕ → ℕ → List (List ℕ) → List Turn
postings office records ts = map (λ t. Post office records t) ts

-- every turn is accepted, and each line comes to the same model, pairs and clean mark as here
pub record TakenAlike (k : KindMeaning) (m : MethodMeaning) (new : State) (ts : List Turn) (here : State) : Type 0 where
  pub accepted : AllByRecursion (λ a. is_ok a ≡ true) (answers k m new ts)
  pub alike : workeds (run k m new ts).lines ≡ workeds here.lines

-- a new sheet opens on the standing ends, and takes the standing texts from any one office
pub record SameAsNew (k : KindMeaning) (m : MethodMeaning) (order : ℕ) (what : Standing) (here : State) : Type 0 where
  pub new : State
  pub opens : open_sheet k (opening order what.ends largest_allowance) ≡ Ok new
  pub takes : (office records : ℕ) → 1 ≤ office → office ≤ 255 → 21 ≤ records → TakenAlike k m new (postings office records what.texts) here

-- ---- 4. Narrowings told the truth

-- the pairs of the marked lines
abbrev pub marked_pairs : List SheetLine → List Bool → ℕ
marked_pairs [] marks = 0
marked_pairs (l ∷ ls) [] = 0
marked_pairs (l ∷ ls) (b ∷ marks) = cond b l.worked.pairs 0 + marked_pairs ls marks

-- the answer is how many lines are marked, and their pairs after it; every other line is as it was
pub record ToldTruth (marks : List Bool) (before after : State) (lines pairs : ℕ) : Type 0 where
  pub how_many : lines ≡ count_by (λ b. b) marks
  pub how_much : pairs ≡ marked_pairs after.lines marks
  pub others : (n : ℕ) → slice_index_or marks n false ≡ false → line_at after n ≡ line_at before n

-- so it is of every accepted narrowing in the log, between the sheet before it and the sheet after it: marked are the
-- lines that use the variable
abbrev pub NarrowingsTrue : KindMeaning → MethodMeaning → Opening → Log → Type 0
NarrowingsTrue k m given log = (earlier later : Log) (office records v : ℕ) (x y : Float) (lines pairs : ℕ) →
    let narrowing = event (Narrow office records v x y) (Ok (Narrowed lines pairs)) in
    log ≡ earlier ++ (narrowing ∷ later) →
    (before after : State) × Reached k m given earlier before × Reached k m given (earlier ++ (narrowing ∷ [])) after
    × ToldTruth (uses v (standing given earlier).texts) before after lines pairs

-- ---- 5. Exact in the whole kind

-- where a mark is a unit and every interval that fits is split at its lower end: at every point of the standing box a clean line that
-- is built from whole constants has nothing left to its remainder, and both ends of its polynomial's value are the exact value
abbrev pub ExactInWhole : KindMeaning → Standing → State → Type 0
ExactInWhole k what s = Whole k → (point : List Fraction) → InBox (standing_box k what) point → (n : ℕ) → n < length what.texts →
    (line_at s n).worked.clean ≡ true → AllByRecursion WholeToken (slice_index_or (built_from what.texts) n []) →
    (v : Fraction) × (exact_marks k.scale point what.texts n ≡ Some v) × ExactModel (units (standing_box k what) point) (model_at s n) v

-- ---- THE PROMISE
pub record Promise (k : KindMeaning) (m : MethodMeaning) (given : Opening) (log : Log) (s : State) : Type 0 where
  pub there : StandsThere k (standing given log) s
  pub bounds : BoundsHold k m (standing given log) s
  pub new : SameAsNew k m given.order (standing given log) s
  pub narrowings : NarrowingsTrue k m given log
  pub exact : ExactInWhole k (standing given log) s

-- every sheet that is reached keeps it
abbrev pub Promised : Type 0
Promised = (k : KindMeaning) (m : MethodMeaning) (given : Opening) (log : Log) (s : State) → Reached k m given log s → Promise k m given log s
