-- The box that given ends make. Assumes nothing.
use Rattle.std.specs.Prelude.{List}
use Rattle.formula.specs.Inputs as inputs
pub use Rattle.formula.specs.Inputs.{box_of, given_ends}

-- the lower and the upper end of each variable, as binary64
abbrev pub Ends : Type 0
Ends = List inputs.Ends
