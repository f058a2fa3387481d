use Rattle.std.proofs.Common.{arith}
use borrow.Author.Differences.{ints}
use Rattle.std.proofs.lemmas.Int.{to_z-of_z}
use Rattle.interval.proofs.arithmetic.rounded_out.Goals as goal

pub returns : goal.returns
returns c = record { value = grind (arith, ints, to_z-of_z) }
