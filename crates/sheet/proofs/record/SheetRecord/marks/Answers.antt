use Rattle.std.proofs.Common.{◌-◌, List, take, sym, ◌∙◌, ap, subst}
use Rattle.sheet.specs.State.{Line, State}
use Rattle.sheet.proofs.Marks.{Marked, lent_lines, lent_few, marked_none, marked_more}
use Rattle.sheet.proofs.record.SheetRecord.marks.Goals as goal

pub loop-n-init : goal.loop-n-init
loop-n-init c =
    let s = c.self.inside in
    rw (← c.self.view_is, ← lent_lines s) (marked_none (take (s.standing - 0) s.lines) c.args.variable)

pub loop-n-preserved : goal.loop-n-preserved
loop-n-preserved c =
    let s = c.self.inside in
    let same = lent_lines s ∙ ap (λ (t : State). t.lines) c.self.view_is in
    let before = subst (λ (ls : List Line). Marked ls c.args.variable c.loop-n.n c.loop-n.marked) (sym same) c.loop-n.invariant in
    rw (← same)
    (marked_more _ c.args.variable c.loop-n.n c.loop-n.marked before c.loop-n-test.true (lent_few s c.self.invariant) _ c.line_uses.result c.line_uses.ensures.value)
