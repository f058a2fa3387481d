-- The lines of a sheet as a function of what stands, and the ends that a narrowing may bring. Assumes nothing.
use Rattle.std.specs.Prelude.{◌≡◌, ℕ, ◌<◌, true, List, [], ◌∷◌, ◌++◌, length, Ok, Result, slice_index_or, Float}
use Rattle.interval.specs.declared.variable.Variable.{Variable}
use Rattle.interval.specs.Interval.{fits}
use Rattle.interval.specs.Reason.{and_then}
use Rattle.interval.specs.Variable.{hull_ends}
use Rattle.interval.specs.Kind.{KindMeaning}
use Rattle.polynomial.specs.Method.{MethodMeaning}
use Rattle.taylor.specs.Product.{Worked}
use Rattle.formula.specs.declared.fault.Fault.{Fault}
use Rattle.formula.specs.Work.{ground, no_variable, work}
use Rattle.sheet.specs.State.{State, workeds}
use Rattle.sheet.specs.Opening.{Opening}
use Rattle.sheet.specs.Narrowing.{sound_ends, inside}
use Rattle.sheet.specs.Reached.{Log, Reached}
use Rattle.sheet.specs.Standing.{standing}
use Rattle.sheet.specs.Promise.{standing_box}

module _ (k : KindMeaning) (m : MethodMeaning) (order : ℕ) (box : List Variable) where
  -- what each text gives, worked from the order, the box and what the texts before it gave
  unfoldable pub built : List Worked → List (List ℕ) → Result (List Worked) Fault
  built below [] = Ok below
  built below (t ∷ ts) = and_then (work k m (ground order box below) t) (λ w. built (below ++ (w ∷ [])) ts)

-- whatever the turns were, the lines are what the standing texts give from the standing box
abbrev pub Consistent : Type 0
Consistent = (k : KindMeaning) (m : MethodMeaning) (given : Opening) (log : Log) (s : State) → Reached k m given log s →
    built k m given.order (standing_box k (standing given log)) [] (standing given log).texts ≡ Ok (workeds s.lines)

-- sound ends inside those of a variable of a reached sheet fit
abbrev pub InnerEndsFit : Type 0
InnerEndsFit = (k : KindMeaning) (m : MethodMeaning) (given : Opening) (log : Log) (s : State) → Reached k m given log s →
    (v : ℕ) (x y : Float) → v < length s.box → sound_ends x y ≡ true → inside (slice_index_or s.box v no_variable) x y ≡ true → fits (hull_ends k.scale x y) ≡ true
