-- What is left of the row brings the tally to the same end.
use Rattle.std.proofs.Common.{◌≡◌, ◌+◌, drop}
use Rattle.taylor.specs.Product.{row}
use Rattle.taylor.specs.Gathering.{tally, tally_of}
use Rattle.taylor.proofs.tally.TallyRecord.take_row.Given as goal

abbrev pub invariant-loop-q : goal.invariant-loop-q
invariant-loop-q g l =
    let k = g.K.Kind.meaning l.by.kind.now in
    (l.self.pairs ≡ l.initial.self.pairs + l.q-index)
    × (tally k l.by.order (tally_of l.self) (row k.scale l.p (drop l.q-index l.qs)) ≡ tally k l.by.order (tally_of l.initial.self) (row k.scale l.p l.qs))
