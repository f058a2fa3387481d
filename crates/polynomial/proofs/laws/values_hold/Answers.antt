use Rattle.polynomial.proofs.Values.{values_between}
use Rattle.polynomial.proofs.laws.values_hold.Goals as goal

pub returns : goal.returns
returns c = record { laws = values_between }
