use Rattle.taylor.proofs.Summing.{turned_more}
use Rattle.taylor.proofs.sums.negated.Goals as goal

pub loop-t-preserved : goal.loop-t-preserved
loop-t-preserved c = turned_more _ c.loop-t.t-items c.loop-t.t-index _ c.loop-t.auto.t-items c.loop-t-test.true c.loop-t.invariant c.opposite.ensures.value
