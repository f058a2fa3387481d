use Rattle.std.proofs.Common.{arith}
use Rattle.std.proofs.lemmas.Int.{to_z-of_z}
use Rattle.polynomial.specs.Quadratic.{joint}
use Rattle.ranging.proofs.joint.Parabola.range.Goals as goal

pub returns-then-turns : goal.returns-then-turns
unfolding joint
returns-then-turns c = record { value = grind (arith, to_z-of_z) }

pub returns-else-turns : goal.returns-else-turns
unfolding joint
returns-else-turns c = record { value = grind (arith, to_z-of_z) }
