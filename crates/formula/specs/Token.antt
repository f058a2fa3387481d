-- Texts: the tokens at their places. Assumes nothing.
use Rattle.std.specs.Prelude.{ℕ, zero, suc, ◌+◌, ◌-◌, ◌*◌, cond, List, [], ◌∷◌, length, Ok, Err, Result, ◌==◌, from_bits, nat_le, nat_lt, slice_index, Float}
use Rattle.std.specs.Float.{binary64}
use Rattle.interval.specs.declared.reason.Reason.{Reason}
use Rattle.interval.specs.declared.reason.Reason.TheVariants.{UnknownTag, TextEnds}
use Rattle.interval.specs.Reason.{require}
use Rattle.formula.specs.declared.token.Token.{Token}
use Rattle.formula.specs.declared.token.Token.TheVariants.{Constant, Variable, Line, Power, Add, Subtract, Multiply}

-- the byte at a place
abbrev pub byte : List ℕ → ℕ → ℕ
byte t i = slice_index t i

-- eight bytes, lowest first, as a binary64
abbrev pub real : List ℕ → ℕ → Float
real t i = from_bits binary64 (
    byte t i + byte t (i + 1) * 256 + byte t (i + 2) * 65536 + byte t (i + 3) * 16777216 + byte t (i + 4) * 4294967296
    + byte t (i + 5) * 1099511627776 + byte t (i + 6) * 281474976710656 + byte t (i + 7) * 72057594037927936)

-- a token and the place after it, or a refusal
abbrev pub Reading : Type 0
Reading = Result (Token × ℕ) Reason

-- a token of n bytes, where the text has so many from place i on
abbrev pub taking : ℕ → List ℕ → ℕ → Token → Reading
taking n t i x = require (nat_le n (length t - i)) TextEnds (Ok (x, i + n))

-- the token at place i by its tag, an ASCII character: c v l ^ + - *
abbrev pub tagged : List ℕ → ℕ → ℕ → Reading
tagged t i tag =
    cond (tag == 99) (taking 9 t i (Constant (real t (i + 1))))
    (cond (tag == 118) (taking 2 t i (Variable (byte t (i + 1))))
    (cond (tag == 108) (taking 2 t i (Line (byte t (i + 1))))
    (cond (tag == 94) (taking 2 t i (Power (byte t (i + 1))))
    (cond (tag == 43) (taking 1 t i Add)
    (cond (tag == 45) (taking 1 t i Subtract)
    (cond (tag == 42) (taking 1 t i Multiply) (Err UnknownTag)))))))

-- what is read at a place: a tag, and what follows it
abbrev pub token_at : List ℕ → ℕ → Reading
token_at t i = require (nat_lt i (length t)) TextEnds (tagged t i (byte t i))

-- ---- a whole text

-- what stands at a place of a text: a token, or the refusal that reading it gives
pub record Item : Type 0 where
  pub place : ℕ
  pub token : Result Token Reason

abbrev pub item : ℕ → Result Token Reason → Item
item i r = record { place = i; token = r }

-- an item, and the items after it; a refusal is the last
abbrev pub followed : ℕ → Reading → (ℕ → List Item) → List Item
followed i (Ok (x, next)) rest = item i (Ok x) ∷ rest next
followed i (Err e) rest = item i (Err e) ∷ []

-- the items from place i on, at most n of them
unfoldable pub items_from : List ℕ → ℕ → ℕ → List Item
items_from t zero i = []
items_from t (suc n) i = cond (nat_lt i (length t)) (followed i (token_at t i) (λ next. items_from t n next)) []

-- the items from place i to the end; each takes a byte or more, so there are no more than bytes
abbrev pub items_at : List ℕ → ℕ → List Item
items_at t i = items_from t (length t) i

abbrev pub items : List ℕ → List Item
items t = items_at t 0

-- the tokens of items, without a refusal
abbrev pub added : Result Token Reason → List Token → List Token
added (Ok x) xs = x ∷ xs
added (Err e) xs = xs

abbrev pub read_tokens : List Item → List Token
read_tokens [] = []
read_tokens (i ∷ is) = added i.token (read_tokens is)

-- the tokens of a text, up to the first that cannot be read
abbrev pub tokens : List ℕ → List Token
tokens t = read_tokens (items t)
