-- The lines of a record: how many stand, which they are, and what striking and adding leave. Assumes nothing.
use Rattle.std.proofs.Common.{◌≡◌, ℕ, ◌+◌, ◌-◌, ◌<◌, List, [], ◌∷◌, ◌++◌, map, length, get_or, take, set, sym, ap, ◌∙◌, subst, arith}
use Rattle.std.proofs.lemmas.List.{length-map, take-set, take-take, take-map, take_more_set, get_or-map, get_or-take}
use Rattle.std.specs.List.{AllByRecursion}
use Rattle.std.proofs.ByRecursion.{All-take, All-push}
use Rattle.table.proofs.Packing.{packs_long}
use Rattle.sheet.specs.declared.line.LineRecord.{LineRecord}
use Rattle.sheet.specs.State.{Line}
use Rattle.sheet.specs.Records.{zero_line, line_of}
use Rattle.sheet.specs.Shape.{LineShape, LinesShape}
use Rattle.sheet.proofs.Slices.{packs_own, packs-push, packs_pop}

-- ---- the lines
module _ (count : ℕ) (ls : List LineRecord) (shape : LinesShape count ls) where
  pub lines_long : length ls ≡ 12
  lines_long = packs_long 12 zero_line ls count (take count ls) shape.packs

  pub lines-count : length (map line_of (take count ls)) ≡ count
  lines-count = length-map (take count ls) line_of ∙ sym shape.packs.size

  -- line n, whatever stands in where there is none
  pub line-there : (n : ℕ) (d : LineRecord) (e : Line) → n < count → get_or (map line_of (take count ls)) n e ≡ line_of (get_or ls n d)
  line-there n d e h =
      let s = shape.packs.size in
      get_or-map line_of (take count ls) n d e (omega arith) ∙ ap line_of (get_or-take count ls n d h)

  -- the newest becomes zero
  module _ (h : 0 < count) where
    pub struck-lines : map line_of (take (count - 1) (set ls (count - 1) zero_line)) ≡ take (length (map line_of (take count ls)) - 1) (map line_of (take count ls))
    struck-lines =
        ap (map line_of) (take-set ls (count - 1) zero_line)
        ∙ sym (rw lines-count (take-map line_of (count - 1) (take count ls) ∙ ap (map line_of) (take-take (count - 1) count ls (omega arith))))

    pub struck_shape : LinesShape (count - 1) (set ls (count - 1) zero_line)
    struck_shape = record {
      packs = packs_own 12 zero_line (set ls (count - 1) zero_line) (count - 1) (take (count - 1) ls) (packs_pop 12 zero_line ls count shape.packs h);
      each = rw take-set (subst (AllByRecursion LineShape) (take-take (count - 1) count ls (omega arith)) (All-take LineShape (count - 1) (take count ls) shape.each));
    }

  -- one is added last
  module _ (l : LineRecord) (h : count < 12) where
    pub added_shape : LineShape l → LinesShape (count + 1) (set ls count l)
    added_shape formed =
        let long = lines_long in
        record {
          packs = packs_own 12 zero_line (set ls count l) (count + 1) (take count ls ++ (l ∷ [])) (packs-push 12 zero_line ls count (take count ls) l shape.packs h);
          each = subst (AllByRecursion LineShape) (sym (take_more_set ls count l (omega arith))) (All-push LineShape (take count ls) l shape.each formed);
        }
