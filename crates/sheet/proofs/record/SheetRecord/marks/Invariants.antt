use Rattle.sheet.proofs.Marks.{Marked}
use Rattle.sheet.proofs.record.SheetRecord.marks.Given as goal

abbrev pub invariant-loop-n : goal.invariant-loop-n
invariant-loop-n l = Marked l.self.lines l.variable l.n l.marked
