-- A record that keeps its shape is the one of its state. Assumes nothing.
use Rattle.std.proofs.Common.{◌≡◌, List, [], ◌∷◌, map, take, sym, refl, ap, ◌∙◌, ap₂}
use Rattle.std.specs.List.{AllByRecursion}
use Rattle.std.proofs.lemmas.List.{length-map}
use Rattle.table.specs.Slice.{packed}
use Rattle.taylor.proofs.Keeps.{packing}
use Rattle.sheet.specs.declared.line.LineRecord.{LineRecord}
use Rattle.sheet.specs.declared.record.SheetRecord.TheInside.{Inside}
use Rattle.sheet.specs.Records.{zero_line, line_of, state_of, record_of_line, record_of}
use Rattle.sheet.specs.Shape.{LineShape, Shape}

-- a line's record is that of its text and of what it gave
pub same_line : (l : LineRecord) → LineShape l → record_of_line (line_of l) ≡ l
same_line l shape = λ i. record {
  office = l.office;
  text = sym shape.text.whole i;
  length = sym shape.text.size i;
  worked = record { model = packing.same l.worked.model shape.model.canonical i; pairs = l.worked.pairs; clean = l.worked.clean };
}

-- and so for each of some lines
same_lines : (ls : List LineRecord) → AllByRecursion LineShape ls → map record_of_line (map line_of ls) ≡ ls
same_lines [] shapes = refl
same_lines (l ∷ ls) shapes = ap₂ ◌∷◌ (same_line l shapes.0) (same_lines ls shapes.1)

-- a sheet's record has in use what its state has, and zeros past it
pub same_record : (s : Inside) → Shape s → record_of (state_of s) ≡ s
same_record s shape =
    let lines = ap (packed 12 zero_line) (same_lines _ shape.lines.each) ∙ sym shape.lines.packs.whole in
    let standing = length-map (take s.standing s.lines) line_of ∙ sym shape.lines.packs.size in
    λ i. record {
      order = s.order;
      allowance = s.allowance;
      inputs = sym shape.box.packs.size i;
      variables = sym shape.box.packs.whole i;
      standing = standing i;
      lines = lines i;
      offices = sym shape.accounts.packs.size i;
      accounts = sym shape.accounts.packs.whole i;
    }
