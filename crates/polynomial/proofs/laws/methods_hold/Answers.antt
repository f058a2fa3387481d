use Rattle.polynomial.proofs.PlainLaws.{plain_lawful}
use Rattle.polynomial.proofs.QuadraticLaws.{quadratic_lawful}
use Rattle.polynomial.proofs.MeetLaws.{meet_lawful}
use Rattle.polynomial.proofs.laws.methods_hold.Goals as goal

pub returns : goal.returns
returns c = record { laws = (plain_lawful, quadratic_lawful, meet_lawful) }
