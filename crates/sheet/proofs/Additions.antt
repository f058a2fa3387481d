-- A line is added to a record. Assumes nothing.
use Rattle.std.proofs.Common.{◌≡◌, ◌<◌, length}
use Rattle.sheet.specs.declared.line.LineRecord.{LineRecord}
use Rattle.sheet.specs.declared.record.SheetRecord.TheInside.{Inside}
use Rattle.sheet.specs.Records.{state_of, added_record}
use Rattle.sheet.specs.Shape.{LineShape, Shape}
use Rattle.sheet.proofs.Lines.{lines-count, added_shape}

module _ (t : Inside) (shape : Shape t) where
  -- as many lines are seen as stand
  pub added-standing : length (state_of t).lines ≡ t.standing
  added-standing = lines-count t.standing t.lines shape.lines

  pub add_shape : (l : LineRecord) → t.standing < 12 → LineShape l → Shape (added_record t l)
  add_shape l space formed = record {
    order = shape.order;
    allowance = shape.allowance;
    box = shape.box;
    lines = added_shape t.standing t.lines shape.lines l space formed;
    accounts = shape.accounts;
  }
