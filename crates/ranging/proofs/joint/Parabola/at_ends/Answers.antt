use Rattle.std.proofs.Common.{arith}
use Rattle.std.proofs.lemmas.Int.{ints, to_z-of_z}
use Rattle.ranging.proofs.joint.Parabola.at_ends.Goals as goal

pub returns : goal.returns
returns c = record { value = grind (arith, ints, to_z-of_z) }
