use Rattle.formula.proofs.BuiltFrom.{uses_what_it_is_built_from}
use Rattle.formula.proofs.Unused.{unused_is_free}
use Rattle.formula.proofs.laws.uses_are_complete.Goals as goal

pub returns : goal.returns
returns c = record { laws = (uses_what_it_is_built_from, unused_is_free) }
