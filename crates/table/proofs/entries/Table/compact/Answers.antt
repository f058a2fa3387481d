use Rattle.std.proofs.Common.{◌≡◌, ◌<◌, true, false, not, length, arith}
use Rattle.std.proofs.lemmas.List.Filters.{FiltersInPlace-more_no, FiltersInPlace-more_set}
use Rattle.table.proofs.entries.Table.compact.Goals as goal
use Rattle.table.proofs.entries.Table.compact.Goals.{then-not-is_spent, else-not-is_spent}

pub loop-i-preserved : goal.loop-i-preserved
loop-i-preserved g c =
    let v = c.loop-i.invariant in
    let low : c.loop-i.i < length c.loop-i.self.entries.now = omega arith in
    elim c.if-not-is_spent.branch [
      | then-not-is_spent w ↦
          let p : not (g.E.Entry.spent c.index-self-i.result) ≡ true = cc in
          rw (w.self-is, w.kept-is, ← c.index-self-i.is) (FiltersInPlace-more_set v.0 low p c.index-self-i.is, v.1, v.2)
      | else-not-is_spent w ↦
          let p : not (g.E.Entry.spent c.index-self-i.result) ≡ false = cc in
          rw (w.self-is, w.kept-is) (FiltersInPlace-more_no v.0 low p c.index-self-i.is, v.1, v.2)
    ]
