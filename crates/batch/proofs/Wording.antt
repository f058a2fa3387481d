-- A loop over the pieces of a line keeps: the words found, and those among the pieces still to come, are the line's words.
use Rattle.std.proofs.Common.{◌≡◌, ℕ, ◌<◌, true, List, [], ◌∷◌, ◌++◌, map, length, Some, filter, ap, ◌∙◌, subst, append_assoc, arith, Bor}
use mathlib.Core.List.{map-append}
use Rattle.std.specs.declared.str.Split.{Split}
use Rattle.std.specs.Str.Iter.{split_text, split_has_more, split_pattern}
use Rattle.std.specs.List.{AllByRecursion}
use Rattle.std.proofs.ByRecursion.{All-push}
use Rattle.batch.specs.declared.words.Word.{Word}
use Rattle.batch.specs.Words.{Text, token, Reads, uncommented, some, words}
use Rattle.batch.proofs.Cuts.{Steps, left, left_some}

abbrev pub texts : List Word → List Text
texts ws = map (λ w. (token w).text) ws

pub record Sofar (line : Text) (s : Split ℕ) (found : List Word) : Type 0 where
  pub callee : split_pattern s ≡ 32
  pub rest : texts found ++ filter some (left s) ≡ words line
  pub reads : AllByRecursion (λ w. Reads (token w)) found

pub begun : (line : Text) (s : Split ℕ) (found : List Word) → split_pattern s ≡ 32 → split_has_more s ≡ true → split_text s ≡ uncommented line → found ≡ [] → Sofar line s found
unfolding words
begun line s found p l t e = record { callee = p; rest = rw (e, l, t); reads = rw e tt }

abbrev Ahead : Text → List Word → List Text → Type 0
Ahead line found ps = texts found ++ filter some ps ≡ words line

without_empty : (line : Text) (found : List Word) (b : Text) (ps : List Text) → length b ≡ 0 → Ahead line found (b ∷ ps) → Ahead line found ps
without_empty line found [] ps e h = h
without_empty line found (c ∷ b) ps e h = absurd (omega arith)

with_word : (line : Text) (found : List Word) (w : Word) (b : Text) (ps : List Text) → 0 < length b → (token w).text ≡ b → Ahead line found (b ∷ ps) → Ahead line (found ++ (w ∷ [])) ps
with_word line found w [] ps e t h = absurd (omega arith)
with_word line found w (c ∷ b) ps e t h =
    ap (λ ts. ts ++ filter some ps) (map-append (λ v. (token v).text) found (w ∷ []))
    ∙ append_assoc (texts found) ((token w).text ∷ []) (filter some ps)
    ∙ ap (λ u. texts found ++ (u ∷ filter some ps)) t ∙ h

-- an empty piece is passed over
pub passed : (line : Text) (s t : Split ℕ) (x : Bor Text) (found : List Word) → Sofar line s found → Steps s (Some x) t → length x.now ≡ 0 → Sofar line t found
passed line s t x found h step e =
    let c = left_some s t x h.callee step in
    record { callee = c.1; rest = without_empty line found x.now (left t) e (subst (Ahead line found) c.0 h.rest); reads = h.reads }

-- any other is a word
pub kept : (line : Text) (s t : Split ℕ) (x : Bor Text) (found more : List Word) (w : Word) → Sofar line s found → Steps s (Some x) t → 0 < length x.now
    → (token w).text ≡ x.now → Reads (token w) → more ≡ found ++ (w ∷ []) → Sofar line t more
kept line s t x found more w h step e same reads grown =
    let c = left_some s t x h.callee step in
    record {
      callee = c.1;
      rest = rw grown (with_word line found w x.now (left t) e same (subst (Ahead line found) c.0 h.rest));
      reads = rw grown (All-push (λ v. Reads (token v)) found w h.reads reads);
    }
