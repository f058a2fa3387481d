use Rattle.sheet.proofs.Consistent.{consistent, inner_ends_fit}
use Rattle.sheet.proofs.laws.lines_are_consistent.Goals as goal

pub returns : goal.returns
returns c = record { laws = (consistent, inner_ends_fit) }
