use Rattle.polynomial.proofs.Values.{reach-encloses}
use Rattle.polynomial.proofs.laws.reaches_hold.Goals as goal

pub returns : goal.returns
returns c = record { laws = reach-encloses }
