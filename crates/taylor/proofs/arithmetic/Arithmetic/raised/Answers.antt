-- What is left of the products brings what was worked so far to the same end.
use Rattle.std.proofs.Common.{true, arith}
use Rattle.taylor.specs.Model.{unpacked}
use Rattle.taylor.specs.Product.{worked}
use Rattle.taylor.proofs.Results.{passed_on}
use Rattle.taylor.proofs.Raised.{times_ready, times_counted, raised-refused, raised_again}
use Rattle.taylor.proofs.arithmetic.Arithmetic.raised.Goals as goal

pub returns-in_err-worked : goal.returns-in_err-worked
returns-in_err-worked g c =
    let p = passed_on c.from_residual.result c.from_residual.ensures.1 in
    let k = g.K.Kind.meaning c.args.self.now.kind.now in
    let m = g.M.Ranging.meaning c.args.self.now.method.now in
    let N = unpacked c.args.operand.now in
    rw p
    (record { value = raised-refused k m c.args.self.now.order N c.args.more c.loop-done._done c.loop-done.worked (worked N 0 true) c.loop-done.invariant.2 c.loop-done-test.true c.in_err-worked.field-0.0 c.in_err-worked.ensures.value })

pub loop-done-preserved : goal.loop-done-preserved
loop-done-preserved g c =
    let k = g.K.Kind.meaning c.args.self.now.kind.now in
    let m = g.M.Ranging.meaning c.args.self.now.method.now in
    let N = unpacked c.args.operand.now in
    let inv = c.loop-done.invariant in
    let V = c.in_ok-worked.worked in
    let h = c.in_ok-worked.ensures.value in
    let A = inv.0.tested.normal in
    let B = c.requires.operand.tested.normal in (
      times_ready k m c.args.self.now.order c.loop-done.worked V N h c.args.self.now.low A B,
      omega (arith, inv.1, times_counted k m c.args.self.now.order c.loop-done.worked V N h A.few B.few),
      raised_again k m c.args.self.now.order N c.args.more c.loop-done._done c.loop-done.worked (worked N 0 true) inv.2 c.loop-done-test.true V h,
    )
