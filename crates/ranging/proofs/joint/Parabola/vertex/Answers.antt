use Rattle.std.proofs.Common.{arith}
use Rattle.std.proofs.lemmas.Int.{ints, to_z-of_z}
use Rattle.ranging.proofs.Vertices.{turns_below, turns-above}
use Rattle.ranging.proofs.joint.Parabola.vertex.Goals as goal

pub returns-then-self-gt0 : goal.returns-then-self-gt0
returns-then-self-gt0 c = record { value = grind (arith, ints, to_z-of_z, turns_below) }

pub returns-then-self-lt0 : goal.returns-then-self-lt0
returns-then-self-lt0 c = record { value = grind (arith, ints, to_z-of_z, turns-above) }
