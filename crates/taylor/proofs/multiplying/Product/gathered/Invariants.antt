-- What is left of the rows brings the tally to that of all pairs.
use Rattle.std.proofs.Common.{◌≡◌, ◌*◌, length, drop}
use Rattle.taylor.specs.Model.{unpacked}
use Rattle.taylor.specs.Product.{pairs}
use Rattle.taylor.specs.Gathering.{product_tally, tally, tally_of}
use Rattle.taylor.proofs.multiplying.Product.gathered.Given as goal

abbrev pub invariant-loop-p : goal.invariant-loop-p
invariant-loop-p g l =
    let k = g.K.Kind.meaning l.self.by.now.kind.now in
    let order = l.self.by.now.order in
    let M = unpacked l.self.a.now in
    let N = unpacked l.self.b.now in
    (l.tally.pairs ≡ l.p-index * length N.terms) × (tally k order (tally_of l.tally) (pairs k.scale (drop l.p-index l.p-items) N.terms) ≡ product_tally k order M N)
