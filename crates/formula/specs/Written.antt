-- The bytes of tokens. Assumes nothing.
use Rattle.std.specs.Prelude.{◌≡◌, ℕ, ◌+◌, ◌/◌, ◌%◌, T, List, [], ◌∷◌, length, Ok, to_bits}
use Rattle.std.specs.Float.{binary64}
use Rattle.std.specs.Float.Ieee.{fits}
use Rattle.std.specs.List.{flat_map, AllByRecursion}
use Rattle.formula.specs.declared.token.Token.{Token}
use Rattle.formula.specs.declared.token.Token.TheVariants.{Constant, Variable, Line, Power, Add, Subtract, Multiply}
use Rattle.formula.specs.Token.{Item, item, items, tokens}

-- the eight bytes of a pattern, lowest first
abbrev pub eight_bytes : ℕ → List ℕ
eight_bytes w =
    w % 256 ∷ w / 256 % 256 ∷ w / 65536 % 256 ∷ w / 16777216 % 256 ∷ w / 4294967296 % 256
    ∷ w / 1099511627776 % 256 ∷ w / 281474976710656 % 256 ∷ w / 72057594037927936 % 256 ∷ []

-- the tag, an ASCII character, and what follows it: c v l ^ + - *
abbrev pub written : Token → List ℕ
written (Constant x) = 99 ∷ eight_bytes (to_bits binary64 x)
written (Variable v) = 118 ∷ v ∷ []
written (Line n) = 108 ∷ n ∷ []
written (Power e) = 94 ∷ e ∷ []
written Add = 43 ∷ []
written Subtract = 45 ∷ []
written Multiply = 42 ∷ []

-- the bytes of tokens, one after the other
abbrev pub written_all : List Token → List ℕ
written_all ts = flat_map written ts

-- a constant is a binary64: every value that the code holds is one, a NaN too
abbrev pub Held : Token → Type 0
Held (Constant x) = T (fits binary64 x)
Held (Variable v) = Unit {0}
Held (Line n) = Unit {0}
Held (Power e) = Unit {0}
Held Add = Unit {0}
Held Subtract = Unit {0}
Held Multiply = Unit {0}

-- the tokens at their places, the first at place i
abbrev pub laid : ℕ → List Token → List Item
laid i [] = []
laid i (t ∷ ts) = item i (Ok t) ∷ laid (i + length (written t)) ts

-- reading the bytes of tokens gives these tokens, each at its place, and no refusal; every NaN is the one `nan` here,
-- so of a NaN's sign and payload this says nothing
abbrev pub ReadsBack : Type 0
ReadsBack = (ts : List Token) → AllByRecursion Held ts → (items (written_all ts) ≡ laid 0 ts) × (tokens (written_all ts) ≡ ts)
