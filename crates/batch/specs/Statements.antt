-- Which words say which statement. Assumes nothing.
use Rattle.std.specs.Prelude.{ℕ, ◌^◌, Bool, false, cond, ◌&&◌, ◌||◌, List, [], ◌∷◌, map, Some, None, Ok, Err, codes, Option, Result, ◌==◌, nat_lt, Float}
use Rattle.std.specs.Option.{ok_or}
use Rattle.std.specs.Str.Parse.{digits_value, without_leading_plus}
use Rattle.std.specs.List.{list_all}
use Rattle.std.specs.Char.{is_ascii_alphabetic, is_ascii_alphanumeric}
use Rattle.std.specs.Str.{bytes_eq, all_ascii_digits}
use Rattle.interval.specs.Reason.{and_then}
use Rattle.batch.specs.declared.fault.Fault.{Fault}
use Rattle.batch.specs.declared.fault.Mistake.{Mistake}
use Rattle.batch.specs.declared.fault.Mistake.TheVariants.{UnknownStatement, KindForm, MethodForm, OrderForm, InputForm, TermForm, RangeForm, NotANumber, NotAName}
use Rattle.batch.specs.declared.kind.KindChoice.{KindChoice}
use Rattle.batch.specs.declared.method.MethodChoice.{MethodChoice}
use Rattle.batch.specs.Faults.{Objection, mistaken, objection}
use Rattle.batch.specs.Kinds.{kind_named}
use Rattle.batch.specs.Methods.{spelled_by}
use Rattle.batch.specs.declared.statement.Statement.{Statement}
use Rattle.batch.specs.declared.statement.Statement.TheVariants.{Nothing, Kind, Method, Order, Input, Term, Range}
use Rattle.batch.specs.Words.{Text, Token, token, some}

-- a letter, a digit or `_`
abbrev pub name_byte : ℕ → Bool
name_byte c = is_ascii_alphanumeric c || c == 95

abbrev pub name_goes_on : Text → Bool
name_goes_on cs = list_all name_byte cs

-- a letter, then letters, digits and `_`
abbrev pub is_name : Text → Bool
is_name [] = false
is_name (c ∷ cs) = is_ascii_alphabetic c && name_goes_on cs

-- the number that digits, perhaps with a `+` in front, write, below 2^64
unfoldable pub whole_number : Text → Option ℕ
whole_number t =
    let digits = without_leading_plus t in
    cond ((some digits && all_ascii_digits digits) && nat_lt (digits_value 10 digits) (2 ^ 64)) (Some (digits_value 10 digits)) None

-- a statement, with the text of its words
pub data Said : Type 0 where
  silence : Said
  kind_is : KindChoice → Said
  method_is : MethodChoice → Said
  order_is : ℕ → Said
  input_is : Text → Float → Float → Said
  term_is : Float → List Token → Said
  range_asked : Said

abbrev pub said : Statement → Said
said Nothing = silence
said (Kind k) = kind_is k
said (Method m) = method_is m
said (Order n) = order_is n
said (Input name low high) = input_is name.now low high
said (Term c factors) = term_is c (map token factors.now)
said Range = range_asked

-- a result, with the text of its words
abbrev pub read_as : {A B : Type 0} → (A → B) → Result A Fault → Result B Objection
read_as view (Ok x) = Ok (view x)
read_as view (Err f) = Err (objection f)

abbrev pub number_said : Token → Result Float Objection
number_said w = ok_or w.number (mistaken NotANumber w.text)

-- the one word, where there is just one
abbrev pub sole_of : Mistake → List Token → Result Token Objection
sole_of m [] = Err (mistaken m [])
sole_of m (w ∷ []) = Ok w
sole_of m (w ∷ v ∷ ws) = Err (mistaken m [])

-- what follows `kind`, `method`, `order`, `input`, `term` and `range`
abbrev pub kind_said : List Token → Result Said Objection
kind_said ws = and_then (sole_of KindForm ws) (λ w. and_then (ok_or (kind_named w.text) (mistaken KindForm [])) (λ k. Ok (kind_is k)))

abbrev pub method_said : List Token → Result Said Objection
method_said ws = and_then (ok_or (spelled_by ws) (mistaken MethodForm [])) (λ m. Ok (method_is m))

abbrev pub order_said : List Token → Result Said Objection
order_said ws = and_then (sole_of OrderForm ws) (λ w. and_then (ok_or (whole_number w.text) (mistaken OrderForm [])) (λ n. Ok (order_is n)))

abbrev pub name_said : Token → Result Text Objection
name_said w = cond (is_name w.text) (Ok w.text) (Err (mistaken NotAName w.text))

abbrev pub input_from : Token → Token → Token → Result Said Objection
input_from n l h = and_then (name_said n) (λ name. and_then (number_said l) (λ low. and_then (number_said h) (λ high. Ok (input_is name low high))))

abbrev pub input_said : List Token → Result Said Objection
input_said [] = Err (mistaken InputForm [])
input_said (n ∷ []) = Err (mistaken InputForm [])
input_said (n ∷ l ∷ []) = Err (mistaken InputForm [])
input_said (n ∷ l ∷ h ∷ []) = input_from n l h
input_said (n ∷ l ∷ h ∷ w ∷ ws) = Err (mistaken InputForm [])

abbrev pub term_from : Token → List Token → Result Said Objection
term_from w ws = and_then (number_said w) (λ c. Ok (term_is c ws))

abbrev pub term_said : List Token → Result Said Objection
term_said [] = Err (mistaken TermForm [])
term_said (w ∷ ws) = term_from w ws

abbrev pub range_said : List Token → Result Said Objection
range_said [] = Ok range_asked
range_said (w ∷ ws) = Err (mistaken RangeForm [])

-- what the first word and those after it say
unfoldable pub said_from : Token → List Token → Result Said Objection
said_from w ws =
    cond (bytes_eq w.text (codes "kind")) (kind_said ws)
    (cond (bytes_eq w.text (codes "method")) (method_said ws)
    (cond (bytes_eq w.text (codes "order")) (order_said ws)
    (cond (bytes_eq w.text (codes "input")) (input_said ws)
    (cond (bytes_eq w.text (codes "term")) (term_said ws)
    (cond (bytes_eq w.text (codes "range")) (range_said ws)
    (Err (mistaken UnknownStatement w.text)))))))

-- what the words of a line say
abbrev pub said_by : List Token → Result Said Objection
said_by [] = Ok silence
said_by (w ∷ ws) = said_from w ws
