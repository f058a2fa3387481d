use Rattle.std.proofs.Common.{length, ap, ◌∙◌, arith}
use Rattle.sheet.specs.State.{State}
use Rattle.sheet.proofs.Additions.{added-standing, add_shape}
use Rattle.sheet.proofs.record.SheetRecord.add_line.Goals as goal

pub invariant_of-self : goal.invariant_of-self
invariant_of-self c =
    let lines = added-standing c.self.inside c.self.invariant in
    let same = ap (λ (t : State). length t.lines) (c.self.view_is ∙ c.charge.ensures.after) in
    add_shape c.self.inside c.self.invariant c.args.newest (omega (arith, lines, same, c.requires.space)) c.requires.formed
