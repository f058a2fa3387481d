-- The lines that use a variable, marked one after the other. Assumes nothing.
use Rattle.std.proofs.Common.{◌≡◌, ℕ, ◌+◌, ◌-◌, ◌<◌, ◌≤◌, Bool, false, List, [], ◌∷◌, ◌++◌, map, length, get_or, take, set, sym, refl, ap, ◌∙◌, subst, ap₂, arith}
use native.Mathlib.Nat.{sub-zero}
use Rattle.std.proofs.lemmas.List.{length-map, length-set, take_more, get_or-map}
use Rattle.table.specs.Slice.{packed, Packs}
use Rattle.table.proofs.Packing.{packs_front}
use Rattle.formula.specs.Meaning.{by_line, any_uses, uses}
use Rattle.formula.specs.Token.{tokens}
use Rattle.formula.proofs.Lines.{by_line_push}
use Rattle.sheet.specs.declared.line.LineRecord.{LineRecord}
use Rattle.sheet.specs.declared.record.SheetRecord.TheInside.{Inside}
use Rattle.sheet.specs.State.{Line, texts}
use Rattle.sheet.specs.Records.{zero_line, line_of, state_of}
use Rattle.sheet.specs.Shape.{Shape}
use Rattle.sheet.proofs.Slices.{packs-push}

-- the lines below n are marked
pub record Marked (ls : List Line) (v n : ℕ) (marks : List Bool) : Type 0 where
  pub long : length marks ≡ 12
  pub packs : Packs 12 false marks n (uses v (take n (texts ls)))

-- the records that are gone through are those of the lines
module _ (s : Inside) where
  pub lent_lines : map line_of (take (s.standing - 0) s.lines) ≡ (state_of s).lines
  lent_lines = ap (λ n. map line_of (take n s.lines)) (sub-zero s.standing)

  pub lent_few : Shape s → length (take (s.standing - 0) s.lines) ≤ 12
  lent_few shape = rw sub-zero shape.lines.packs.fits

module _ (rs : List LineRecord) (v : ℕ) where
  abbrev ls : List Line
  ls = map line_of rs

  count : length (texts ls) ≡ length rs
  count = length-map ls _ ∙ length-map rs line_of

  pub marked_none : Marked ls v 0 (packed 12 false [])
  unfolding by_line
  marked_none = record { long = refl; packs = record { whole = refl; size = refl; fits = omega arith } }

  -- line n is marked by the marks below it
  module _ (n : ℕ) (marks : List Bool) (m : Marked ls v n marks) (h : n < length rs) (few : length rs ≤ 12) (d : LineRecord) where
    text : get_or (texts ls) n [] ≡ (line_of (get_or rs n d)).text
    text = get_or-map (λ l. l.text) ls n (line_of zero_line) [] (rw length-map h) ∙ ap (λ l. l.text) (get_or-map line_of rs n d (line_of zero_line) h)

    below : take (n - 0) marks ≡ uses v (take n (texts ls))
    below = ap (λ i. take i marks) (sub-zero n) ∙ packs_front 12 false marks n _ m.packs

    pub marked_more : (used : Bool) → used ≡ any_uses v (take (n - 0) marks) (tokens (line_of (get_or rs n d)).text) → Marked ls v (n + 1) (set marks n used)
    marked_more used is =
        let c = count in
        let seen : used ≡ any_uses v (uses v (take n (texts ls))) (tokens (get_or (texts ls) n [])) = is ∙ ap₂ (λ bs t. any_uses v bs (tokens t)) below (sym text) in
        let more : uses v (take n (texts ls)) ++ (used ∷ []) ≡ uses v (take (n + 1) (texts ls)) =
        ap (λ b. uses v (take n (texts ls)) ++ (b ∷ [])) seen
        ∙ sym (ap (uses v) (take_more (texts ls) n [] (omega arith)) ∙ by_line_push (any_uses v) (take n (texts ls)) (get_or (texts ls) n [])) in
        record {
          long = length-set marks n used ∙ m.long;
          packs = subst (Packs 12 false (set marks n used) (n + 1)) more (packs-push 12 false marks n (uses v (take n (texts ls))) used m.packs (omega arith));
        }
