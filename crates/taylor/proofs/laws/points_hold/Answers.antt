use Rattle.taylor.proofs.Coordinates.{points_hold}
use Rattle.taylor.proofs.laws.points_hold.Goals as goal

pub returns : goal.returns
returns c = record { laws = points_hold }
