use Rattle.std.proofs.Common.{arith, lit≤}
use Rattle.interval.proofs.Sizes.{sized_weaken}
use Rattle.ranging.proofs.Adding.{few_sized, more_sized}
use Rattle.ranging.proofs.Parts.{item-sized, part_more, quadratic_all}
use Rattle.ranging.proofs.quadratic.quadratic_range.Goals as goal

pub plus-range-requires : goal.plus-range-requires
plus-range-requires c =
    let p = c.args.polynomial in
    let s = item-sized p.terms.now c.loop-t.t-index c.part.result c.loop-t-test.true p.sound c.part.ensures.value in
    (few_sized c.loop-t.t-index (omega (arith, p.sound.few)) c.loop-t.invariant.1, sized_weaken (lit≤ tt) s)

pub loop-t-preserved : goal.loop-t-preserved
loop-t-preserved c =
    let p = c.args.polynomial in
    let s = item-sized p.terms.now c.loop-t.t-index c.part.result c.loop-t-test.true p.sound c.part.ensures.value in
    rw c.plus-range.ensures.value (
      part_more p.terms.now c.loop-t.t-index c.loop-t.range c.part.result c.loop-t-test.true c.part.ensures.value c.loop-t.invariant.0,
      more_sized c.loop-t.t-index c.loop-t.invariant.1 s,
    )

pub returns : goal.returns
returns c = record { value = quadratic_all c.args.polynomial.terms.now c.loop-t.t-index c.loop-t.range c.loop-t-test.false c.loop-t.invariant.0 }
