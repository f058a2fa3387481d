use Rattle.rational.proofs.Laws.{powers_stay, even_powers_stay}
use Rattle.rational.proofs.powers_hold.Goals as goal

pub returns : goal.returns
returns c = record { laws = (powers_stay, even_powers_stay) }
