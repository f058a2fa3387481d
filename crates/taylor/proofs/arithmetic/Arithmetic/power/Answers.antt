-- The three ways of the definition.
use Rattle.taylor.specs.Model.{unpacked}
use Rattle.taylor.proofs.Raised.{ready_held, one-held, power_none}
use Rattle.taylor.proofs.arithmetic.Arithmetic.power.Goals as goal

pub alone-requires : goal.alone-requires
alone-requires g c = one-held (g.K.Kind.meaning c.args.self.now.kind.now) c.one.result c.one.ensures.value

pub alone-requires-in-1 : goal.alone-requires-in-1
alone-requires-in-1 g c = ready_held c.requires.operand

pub returns-in-0 : goal.returns-in-0
returns-in-0 g c =
    let k = g.K.Kind.meaning c.args.self.now.kind.now in
    let m = g.M.Ranging.meaning c.args.self.now.method.now in
    record { value = power_none k m c.args.self.now.order (unpacked c.args.operand.now) c.args.exponent c.in-0.is c.one.result c.one.ensures.value c.alone.result c.alone.ensures.value }
