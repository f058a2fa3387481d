-- The variables of a record, as given ends make them. Assumes nothing.
use Rattle.std.specs.Prelude.{ℕ, List, Ok, Result}
use Rattle.interval.specs.declared.refusal.Refusal.{Refusal}
use Rattle.interval.specs.declared.variable.Variable.{Variable}
use Rattle.interval.specs.Reason.{and_then}
use Rattle.table.specs.Slice.{packed}
pub use Rattle.formula.specs.Inputs.{boxed}
use Rattle.formula.specs.Work.{no_variable}
use Rattle.sheet.specs.Box.{Ends}
use Rattle.sheet.specs.Opening.{ends_tested}

-- six places for them, or the refusal of the first that fails a test
abbrev pub made_box : ℕ → Ends → Result (List Variable) Refusal
made_box S ends = and_then (ends_tested S 0 ends) (λ _. Ok (packed 6 no_variable (boxed S ends)))
