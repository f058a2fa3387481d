use Rattle.std.proofs.Common.{sym, subst}
use Rattle.interval.specs.Interval.{limit}
use Rattle.taylor.specs.Record.{Held}
use Rattle.taylor.proofs.Summing.{negated-held}
use Rattle.taylor.proofs.sums.difference.Goals as goal

pub sum-requires-clause-second : goal.sum-requires-clause-second
sum-requires-clause-second c = subst (Held limit) (sym c.negated.ensures.value) (negated-held c.args.b.now c.requires.second)
