-- What a desk holds, and what each statement changes. Assumes nothing.
use Rattle.std.specs.Prelude.{◌≡◌, ℕ, Bool, cond, ◌&&◌, ◌⊎◌, List, [], ◌∷◌, ◌++◌, map, length, is_some, Ok, Err, Result, ◌==◌, nat_le, nat_lt, Float}
use Rattle.std.specs.Option.{ok_or}
use Rattle.interval.specs.declared.reason.Reason.{Reason}
use Rattle.interval.specs.declared.reason.Reason.TheVariants.{OrderOutOfRange, VariablesOutOfRange, ConstantDoesNotFit}
use Rattle.interval.specs.declared.variable.Variable.{Variable}
use Rattle.interval.specs.Hull.{hulled}
use Rattle.interval.specs.Reason.{and_then, require}
use Rattle.interval.specs.Variable.{variable_of}
use Rattle.polynomial.specs.declared.term.Term.{Term}
use Rattle.polynomial.specs.Reach as reach
use Rattle.polynomial.specs.Reach.{with_term, dropped}
use Rattle.batch.specs.declared.desk.Desk.{Desk}
use Rattle.batch.specs.declared.fault.Mistake.TheVariants.{LateKind, NameTaken}
use Rattle.batch.specs.declared.kind.KindChoice.{KindChoice}
use Rattle.batch.specs.declared.kind.KindChoice.TheVariants.{Fixed}
use Rattle.batch.specs.declared.method.MethodChoice.{MethodChoice}
use Rattle.batch.specs.declared.method.MethodChoice.TheVariants.{Quadratic}
use Rattle.batch.specs.Drafts.{admitted}
use Rattle.batch.specs.DraftTerms.{terms_of}
use Rattle.batch.specs.Factors.{monomial_of}
use Rattle.batch.specs.Faults.{Objection, mistaken, refused, no_memory}
use Rattle.batch.specs.Inputs.{named_variables, place_of}
use Rattle.batch.specs.Kinds.{chosen_kind}
use Rattle.batch.specs.Statements.{Said, silence, kind_is, method_is, order_is, input_is, term_is, range_asked}
use Rattle.batch.specs.Words.{Text, Token}

-- what a desk holds
pub record View : Type 0 where
  pub chosen : KindChoice
  pub ranging : MethodChoice
  pub degrees : ℕ
  pub inputs : List (Text × Variable)
  -- the terms that have come, and the polynomial that was closed last
  pub terms : List Term
  pub closed : List Term

abbrev pub view : Desk → View
view d = record { chosen = d.kind; ranging = d.method; degrees = d.order; inputs = named_variables d.inputs; terms = terms_of d.draft; closed = terms_of d.closed }

-- a desk at the start
abbrev pub fresh : View
fresh = record { chosen = Fixed; ranging = Quadratic; degrees = 3; inputs = []; terms = []; closed = [] }

abbrev pub no_input : View → Bool
no_input v = length v.inputs == 0

abbrev pub names : View → List Text
names v = map (λ x. x.0) v.inputs

abbrev pub marks_a_unit : View → ℕ
marks_a_unit v = (chosen_kind v.chosen).scale

-- a refusal of the sheet's rules, told of a word
abbrev pub refused_at : {A : Type 0} → Text → Result A Reason → Result A Objection
refused_at word (Ok x) = Ok x
refused_at word (Err r) = Err (refused r word)

abbrev pub with_kind : KindChoice → View → View
with_kind k v = record { chosen = k; ranging = v.ranging; degrees = v.degrees; inputs = v.inputs; terms = v.terms; closed = v.closed }

abbrev pub with_method : MethodChoice → View → View
with_method m v = record { chosen = v.chosen; ranging = m; degrees = v.degrees; inputs = v.inputs; terms = v.terms; closed = v.closed }

abbrev pub with_order : ℕ → View → View
with_order n v = record { chosen = v.chosen; ranging = v.ranging; degrees = n; inputs = v.inputs; terms = v.terms; closed = v.closed }

abbrev pub with_inputs : List (Text × Variable) → View → View
with_inputs xs v = record { chosen = v.chosen; ranging = v.ranging; degrees = v.degrees; inputs = xs; terms = v.terms; closed = v.closed }

abbrev pub with_terms : List Term → View → View
with_terms ts v = record { chosen = v.chosen; ranging = v.ranging; degrees = v.degrees; inputs = v.inputs; terms = ts; closed = v.closed }

-- the polynomial without its terms of [0, 0]; the next one begins
abbrev pub with_closed : View → View
with_closed v = record { chosen = v.chosen; ranging = v.ranging; degrees = v.degrees; inputs = v.inputs; terms = []; closed = dropped v.terms }

-- a kind comes before the first input
abbrev pub kind_taken : KindChoice → View → Result View Objection
kind_taken k v = require (no_input v) (mistaken LateKind []) (Ok (with_kind k v))

abbrev pub order_taken : ℕ → View → Result View Objection
order_taken n v = require (nat_le 1 n && nat_le n 8) (refused OrderOutOfRange []) (Ok (with_order n v))

-- an input comes last, under a name of its own
abbrev pub input_taken : Text → Float → Float → View → Result View Objection
input_taken name low high v =
    cond (is_some (place_of (names v) name)) (Err (mistaken NameTaken name))
    (require (nat_lt (length v.inputs) 6) (refused VariablesOutOfRange name)
    (and_then (refused_at name (variable_of (marks_a_unit v) low high)) (λ x. Ok (with_inputs (v.inputs ++ ((name, x) ∷ [])) v))))

-- a term's coefficient is the hull of its number, and it enters the table
abbrev pub term_taken : Float → List Token → View → Result View Objection
term_taken x factors v =
    and_then (ok_or (hulled (marks_a_unit v) x) (refused ConstantDoesNotFit [])) (λ i.
    and_then (monomial_of (names v) v.degrees factors) (λ m.
    and_then (refused_at [] (admitted v.terms (reach.term m i))) (λ _. Ok (with_terms (with_term v.terms (reach.term m i)) v))))

-- the desk after a statement, or the objection
unfoldable pub taken : Said → View → Result View Objection
taken silence v = Ok v
taken (kind_is k) v = kind_taken k v
taken (method_is m) v = Ok (with_method m v)
taken (order_is n) v = order_taken n v
taken (input_is name low high) v = input_taken name low high v
taken (term_is x factors) v = term_taken x factors v
taken range_asked v = Ok (with_closed v)

-- the statement s was taken at v, with the outcome r, and left w: an objection changes nothing, and memory may be wanting
abbrev pub Took : View → Said → Result Unit Objection → View → Type 0
Took v s (Ok x) w = taken s v ≡ Ok w
Took v s (Err o) w = (w ≡ v) × ((taken s v ≡ Err o) ⊎ (o ≡ no_memory))
