use Rattle.taylor.proofs.Enclosures.{arithmetic_encloses}
use Rattle.taylor.proofs.laws.arithmetic_encloses.Goals as goal

pub returns : goal.returns
returns c = record { laws = arithmetic_encloses }
