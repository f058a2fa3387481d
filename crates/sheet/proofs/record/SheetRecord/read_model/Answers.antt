use Rattle.std.proofs.Common.{◌≡◌, Some, None, sym, refl}
use Rattle.std.specs.List.{slice_get}
use Rattle.taylor.proofs.Keeps.{packing}
use Rattle.sheet.specs.Records.{line_of}
use Rattle.sheet.specs.Shape.{LineShape}
use Rattle.sheet.proofs.LineReadings.{no_model, model-is, handed_on}
use Rattle.sheet.proofs.record.SheetRecord.read_model.Goals as goal

pub returns-in_err-here : goal.returns-in_err-here
returns-in_err-here c =
    let e = c.in_err-here.ensures in
    let none : None ≡ slice_get c.args.self.now.lines c.args.number = rw e.ok_part at c.line_at.ensures.value in
    rw (no_model c.args.self.now c.args.number none) (record {
      value = handed_on c.line_at.result _ c.refuse.result _ e.ok_part e.value c.refuse.ensures.value c.from_residual.result c.from_residual.ensures.1;
      after = refl;
    })

pub returns : goal.returns
returns c =
    let l = c.in_ok-here.here.now in
    let e = c.in_ok-here.ensures in
    let some : Some (line_of l) ≡ slice_get c.args.self.now.lines c.args.number = rw e.ok_part at c.line_at.ensures.value in
    let formed : LineShape l = rw e.ok_part at c.line_at.ensures.formed in
    rw (model-is c.args.self.now c.args.number l some) (record { value = refl; after = sym (packing.same l.worked.model formed.model.canonical) })
