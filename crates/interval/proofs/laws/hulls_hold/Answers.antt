use Rattle.interval.proofs.Encloses.{holds, nearest, exact, monotone}
use Rattle.interval.proofs.laws.hulls_hold.Goals as goal

pub returns : goal.returns
returns c = record { laws = (holds, nearest, exact, monotone) }
