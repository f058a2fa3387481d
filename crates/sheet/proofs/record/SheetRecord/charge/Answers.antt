use Rattle.sheet.proofs.Charges.{charge_joins, charge_shape, charge-state}
use Rattle.sheet.proofs.record.SheetRecord.charge.Goals as goal

pub enter-requires : goal.enter-requires
enter-requires c = record { joins = charge_joins c.self.inside c.self.invariant _ c.self.view_is c.args.office c.args.pairs c.requires.room c.requires.paid }

pub invariant_of-self : goal.invariant_of-self
invariant_of-self c =
    let e = c.enter.ensures in
    charge_shape c.self.inside c.self.invariant _ c.self.view_is c.args.office c.args.pairs c.requires.room c.requires.paid _ _ _ e.answer e.after e.count

pub returns : goal.returns
returns c =
    let e = c.enter.ensures in
    record { after = charge-state c.self.inside c.self.invariant _ c.self.view_is c.args.office c.args.pairs c.requires.room c.requires.paid _ _ _ e.answer e.after e.count }
