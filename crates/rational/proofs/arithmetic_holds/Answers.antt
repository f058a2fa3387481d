use Rattle.rational.proofs.Laws.{sum_monotone, difference_monotone, product_monotone, quotient_exact}
use Rattle.rational.proofs.arithmetic_holds.Goals as goal

pub returns : goal.returns
returns c = record { laws = (sum_monotone, difference_monotone, product_monotone, quotient_exact) }
