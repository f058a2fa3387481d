-- As many products as are left bring what was worked so far to the same end.
use Rattle.std.proofs.Common.{◌≡◌, ◌-◌, ◌*◌, ◌≤◌, true}
use Rattle.taylor.specs.Model.{unpacked}
use Rattle.taylor.specs.Product.{worked, raised}
use Rattle.taylor.specs.Record.{Ready, worked_of}
use Rattle.taylor.proofs.arithmetic.Arithmetic.raised.Given as goal

abbrev pub invariant-loop-done : goal.invariant-loop-done
invariant-loop-done g l =
    let k = g.K.Kind.meaning l.self.kind.now in
    let m = g.M.Ranging.meaning l.self.method.now in
    let N = unpacked l.operand in
    Ready m l.worked.model × (l.worked.pairs ≤ l._done * 1600)
    × (raised k m l.self.order (l.more - l._done) (worked_of l.worked) N ≡ raised k m l.self.order l.more (worked N 0 true) N)
