use Rattle.rational.proofs.Laws.{reflexive, transitive, total, antisymmetric}
use Rattle.rational.proofs.order_holds.Goals as goal

pub returns : goal.returns
returns c = record { laws = (reflexive, transitive, total, antisymmetric) }
