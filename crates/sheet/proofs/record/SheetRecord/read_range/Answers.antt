use Rattle.std.proofs.Common.{◌≡◌, Some, None, Ok, ap}
use Rattle.std.specs.List.{slice_get}
use Rattle.sheet.specs.Records.{line_of}
use Rattle.sheet.proofs.LineReadings.{no_range, range-is, handed_on}
use Rattle.sheet.proofs.record.SheetRecord.read_range.Goals as goal

pub returns-in_err-here : goal.returns-in_err-here
returns-in_err-here g c =
    let e = c.in_err-here.ensures in
    let none : None ≡ slice_get c.args.self.now.lines c.args.number = rw e.ok_part at c.line_at.ensures.value in
    rw (no_range c.args.self.now c.args.number none (g.M.Ranging.meaning c.args.method.now)) (record {
      value = handed_on c.line_at.result _ c.refuse.result _ e.ok_part e.value c.refuse.ensures.value c.from_residual.result c.from_residual.ensures.1;
    })

pub returns : goal.returns
returns g c =
    let l = c.in_ok-here.here.now in
    let some : Some (line_of l) ≡ slice_get c.args.self.now.lines c.args.number = rw c.in_ok-here.ensures.ok_part at c.line_at.ensures.value in
    rw (range-is c.args.self.now c.args.number l some (g.M.Ranging.meaning c.args.method.now)) (record { value = ap Ok c.range.ensures.value })
