use Rattle.interval.proofs.Encloses.{even_reaches, full_reaches}
use Rattle.interval.proofs.laws.reaches_enclose.Goals as goal

pub returns : goal.returns
returns c = record { laws = (even_reaches, full_reaches) }
