use Rattle.interval.proofs.Encloses.{sums, differences, negations, products, meets}
use Rattle.interval.proofs.laws.arithmetic_encloses.Goals as goal

pub returns : goal.returns
returns c = record { laws = (sums, differences, negations, products, meets) }
