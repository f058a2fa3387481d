use Rattle.std.proofs.Common.{refl}
use Rattle.taylor.proofs.WholeKind.{whole-exact}
use Rattle.taylor.proofs.ExactValues.{points-exact}
use Rattle.taylor.proofs.laws.whole_kind_is_exact.Goals as goal

pub returns : goal.returns
returns c = record { laws = (record { unit = refl; points = λ i f. refl }, whole-exact, points-exact) }
