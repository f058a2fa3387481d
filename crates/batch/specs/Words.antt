-- The words of a line. Assumes nothing.
use Rattle.std.specs.Prelude.{ℕ, Bool, true, false, cond, List, [], ◌∷◌, filter, Option, ◌==◌, Float}
use Rattle.std.specs.Float.{binary64}
use Rattle.std.specs.Option.{ok_or}
use Rattle.std.specs.Float.Parse.{ParsesFloat}
use Rattle.batch.specs.declared.words.Word.{Word}

abbrev pub Text : Type 0
Text = List ℕ

-- a word: its text, and the decimal number that it is, if it is one
pub record Token : Type 0 where
  pub text : Text
  pub number : Option Float

abbrev pub token : Word → Token
token w = record { text = w.text.now; number = w.number }

-- the number, if there is one, is what the standard library reads from the text
abbrev pub Reads : Token → Type 0
Reads t = ParsesFloat {E = ℕ} binary64 64 t.text (ok_or t.number 0)

-- what stands before the first `#`
abbrev pub uncommented : Text → Text
uncommented [] = []
uncommented (c ∷ cs) = cond (c == 35) [] (c ∷ uncommented cs)

abbrev pub onto : ℕ → List Text → List Text
onto c [] = (c ∷ []) ∷ []
onto c (p ∷ ps) = (c ∷ p) ∷ ps

-- what stands before, between and after the blanks
abbrev pub pieces : Text → List Text
pieces [] = [] ∷ []
pieces (c ∷ cs) = cond (c == 32) ([] ∷ pieces cs) (onto c (pieces cs))

abbrev pub some : Text → Bool
some [] = false
some (c ∷ cs) = true

-- the pieces that are not empty
unfoldable pub words : Text → List Text
words line = filter some (pieces (uncommented line))
