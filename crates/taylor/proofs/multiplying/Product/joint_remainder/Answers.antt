-- Each of the three products fits, and the pairs leave over far less than 64 bits hold.
use Rattle.std.proofs.Common.{refl, lit≤}
use Rattle.interval.specs.Interval.{Fits}
use Rattle.interval.proofs.Sizes.{sized_weaken}
use Rattle.taylor.proofs.Operands.{kept, product-fits, product-joins, remainders_times}
use Rattle.taylor.proofs.multiplying.Product.joint_remainder.Given as given
use Rattle.taylor.proofs.multiplying.Product.joint_remainder.Goals as goal
use Rattle.taylor.proofs.multiplying.Product.joint_remainder.Goals.{Else-not-fits-3}

first : (g : given.Over) (c : Else-not-fits-3 g) → Fits c.range_remainder-first.result
first g c = product-fits (g.K.Kind.meaning c.args.self.now.by.now.kind.now) refl _ _ c.range_remainder-first.result c.range_remainder-first.ensures.value c.if-not-fits.ensures.value

second : (g : given.Over) (c : Else-not-fits-3 g) → Fits c.range_remainder-second.result
second g c = product-fits (g.K.Kind.meaning c.args.self.now.by.now.kind.now) refl _ _ c.range_remainder-second.result c.range_remainder-second.ensures.value c.if-not-fits-2.ensures.value

third : (g : given.Over) (c : Else-not-fits-3 g) → Fits c.times-third.result
third g c = product-fits (g.K.Kind.meaning c.args.self.now.by.now.kind.now) c.scale.ensures.value c.args.self.now.a.now.remainder c.args.self.now.b.now.remainder c.times-third.result c.times-third.ensures.value c.if-not-fits-3.ensures.value

pub plus-requires : goal.plus-requires
plus-requires g c = (sized_weaken (lit≤ tt) c.requires, sized_weaken (lit≤ tt) (first g c))

pub plus-requires-2 : goal.plus-requires-2
plus-requires-2 g c =
    let d = (goal.at.plus-requires-2 g c).Else-not-fits-3 in
    (sized_weaken (lit≤ tt) (product-joins c.requires (first g d) c.plus.ensures.value), sized_weaken (lit≤ tt) (second g d))

pub plus-requires-3 : goal.plus-requires-3
plus-requires-3 g c =
    let d = (goal.at.plus-requires-3 g c).Else-not-fits-3 in
    let s = product-joins c.requires (first g d) c.plus.ensures.value in
    (sized_weaken (lit≤ tt) (product-joins s (second g d) c.plus-2.ensures.value), sized_weaken (lit≤ tt) (third g d))

pub times-third-requires : goal.times-third-requires
times-third-requires g c = remainders_times (kept c.args.self.now.first) (kept c.args.self.now.second)
