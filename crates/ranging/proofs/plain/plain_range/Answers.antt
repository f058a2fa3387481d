use Rattle.std.proofs.Common.{arith, lit≤}
use Rattle.interval.proofs.Sizes.{sized_weaken}
use Rattle.ranging.proofs.Adding.{plain-sized, few_sized, more_sized, plain_more, plain_all}
use Rattle.ranging.proofs.plain.plain_range.Goals as goal

pub plus-range-requires : goal.plus-range-requires
plus-range-requires c =
    let s = plain-sized c.args.terms.now c.loop-t.t-index c.reach.result c.loop-t-test.true c.requires c.reach.ensures.value in
    (few_sized c.loop-t.t-index (omega arith) c.loop-t.invariant.1, sized_weaken (lit≤ tt) s)

pub loop-t-preserved : goal.loop-t-preserved
loop-t-preserved c =
    let s = plain-sized c.args.terms.now c.loop-t.t-index c.reach.result c.loop-t-test.true c.requires c.reach.ensures.value in
    rw c.plus-range.ensures.value (
      plain_more c.args.terms.now c.loop-t.t-index c.loop-t.range c.reach.result c.loop-t-test.true c.reach.ensures.value c.loop-t.invariant.0,
      more_sized c.loop-t.t-index c.loop-t.invariant.1 s,
    )

pub returns : goal.returns
returns c = record { value = plain_all c.args.terms.now c.loop-t.t-index c.loop-t.range c.loop-t-test.false c.loop-t.invariant.0 }
