-- What holds of uses, parts and exact values, whatever the texts. Assumes nothing.
use Rattle.std.specs.Prelude.{◌≡◌, ℕ, Bool, false, List, [], ◌++◌, map, length, take, None, ◌≢◌, slice_index_or}
use Rattle.std.specs.List.{slice_get}
use Rattle.rational.specs.Fraction.{Fraction}
use Rattle.formula.specs.declared.token.Token.{Token}
use Rattle.formula.specs.Meaning.{any_uses, uses, built_from, exact}

-- one entry a line, which depends only on the texts up to that line
abbrev pub LineByLine : {A : Type 0} → (List (List ℕ) → List A) → Type 0
LineByLine F = (texts more : List (List ℕ)) → (length (F texts) ≡ length texts) × (take (length texts) (F (texts ++ more)) ≡ F texts)

abbrev pub UsesLineByLine : Type 0
UsesLineByLine = (v : ℕ) → LineByLine (uses v)

abbrev pub BuiltLineByLine : Type 0
BuiltLineByLine = LineByLine built_from

abbrev pub ExactLineByLine : Type 0
ExactLineByLine = (S : ℕ) (point : List Fraction) → LineByLine (exact S point)

-- some token names the variable itself
abbrev pub names : ℕ → List Token → Bool
names v ts = any_uses v [] ts

-- a line uses a variable exactly if a token that it is built from names it
abbrev pub UsesWhatItIsBuiltFrom : Type 0
UsesWhatItIsBuiltFrom = (v : ℕ) (texts : List (List ℕ)) → uses v texts ≡ map (names v) (built_from texts)

-- two points agree but in coordinate v
abbrev pub AgreeBut : ℕ → List Fraction → List Fraction → Type 0
AgreeBut v p q = (w : ℕ) → (v ≢ w) → slice_get p w ≡ slice_get q w

-- a line that does not use a variable has the same value wherever that variable stands
abbrev pub UnusedIsFree : Type 0
UnusedIsFree = (S v : ℕ) (p q : List Fraction) (texts : List (List ℕ)) (n : ℕ)
    → AgreeBut v p q → slice_index_or (uses v texts) n false ≡ false → slice_index_or (exact S p texts) n None ≡ slice_index_or (exact S q texts) n None
