-- Records of models: what an operand is, and how results come out. Assumes nothing.
use Rattle.std.specs.Prelude.{ℕ, Ok, Result}
use Rattle.interval.specs.declared.reason.Reason.{Reason}
use Rattle.interval.specs.Reason.{and_then}
use Rattle.polynomial.specs.Method.{MethodMeaning}
use Rattle.taylor.specs.declared.model.ModelRecord.{ModelRecord}
use Rattle.taylor.specs.declared.worked.WorkedRecord.{WorkedRecord}
use Rattle.taylor.specs.Model.{Model, packed, unpacked}
use Rattle.taylor.specs.Form.{SizedModel, Canonical, Tested}
use Rattle.taylor.specs.Product.{Worked, worked}

-- a canonical record whose ends have at most n marks
pub record Held (n : ℕ) (r : ModelRecord) : Type 0 where
  pub canonical : Canonical r
  pub sized : SizedModel n (unpacked r)

-- a canonical record whose model has passed the test
pub record Ready (m : MethodMeaning) (r : ModelRecord) : Type 0 where
  pub canonical : Canonical r
  pub tested : Tested m (unpacked r)

-- a model that comes out, as its record
abbrev pub recorded : Result Model Reason → Result ModelRecord Reason
recorded r = and_then r (λ M. Ok (packed M))

-- a test that was passed, or its refusal
abbrev pub passed : Result Model Reason → Result Unit Reason
passed r = and_then r (λ _. Ok tt)

-- what was worked out, and its record
abbrev pub worked_of : WorkedRecord → Worked
worked_of w = worked (unpacked w.model) w.pairs w.clean

abbrev pub packed_worked : Worked → WorkedRecord
packed_worked w = record { model = packed w.model; pairs = w.pairs; clean = w.clean }

abbrev pub recorded_worked : Result Worked Reason → Result WorkedRecord Reason
recorded_worked r = and_then r (λ w. Ok (packed_worked w))
