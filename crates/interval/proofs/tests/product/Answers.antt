use Rattle.std.proofs.Common.{sym, arith}
use borrow.Author.Differences.{ints}
use Rattle.interval.proofs.Sizes.{fits-sized}
use Rattle.interval.proofs.tests.product.Goals as goal

pub times-requires : goal.times-requires
times-requires c = (fits-sized (omega (arith, ints)) (sym c.if-fits.ensures.value), fits-sized (omega (arith, ints)) (sym c.if-fits-2.ensures.value))
