use Rattle.std.proofs.Common.{ap₂, arith}
use borrow.Author.Differences.{ints}
use Rattle.interval.specs.Interval.{interval}
use Rattle.interval.proofs.marks.Interval.minus.Goals as goal

pub returns : goal.returns
returns c = record { value = ap₂ interval (omega (arith, ints)) (omega (arith, ints)) }
