-- What lines use, what they are built from, and their exact values at a point: functions of the texts. Assumes nothing.
use Rattle.std.specs.Prelude.{ℕ, Bool, false, cond, List, [], ◌∷◌, ◌++◌, pos, Some, None, fold, Option, ◌==◌, slice_index_or, Float}
use Rattle.std.specs.Float.{float_is_finite}
use Rattle.std.specs.Option.{option_map}
use Rattle.std.specs.List.{list_any, slice_get}
use Rattle.rational.specs.Fraction.{Fraction, whole, per, powᶠ, ◌+ᶠ◌, ◌-ᶠ◌, ◌*ᶠ◌}
use Rattle.interval.specs.Hull.{value}
use Rattle.formula.specs.declared.token.Token.{Token}
use Rattle.formula.specs.declared.token.Token.TheVariants.{Constant, Variable, Line, Power, Add, Subtract, Multiply}
use Rattle.formula.specs.Token.{tokens}

-- something of each line, from that of the lines below it and from its own tokens
unfoldable pub by_line : {A : Type 0} → (List A → List Token → A) → List (List ℕ) → List A
by_line f texts = fold (λ below text. below ++ (f below (tokens text) ∷ [])) [] texts

-- ---- a line uses a variable if its text names it, or names a line that uses it
abbrev pub token_uses : ℕ → List Bool → Token → Bool
token_uses v below (Constant x) = false
token_uses v below (Variable w) = v == w
token_uses v below (Line n) = slice_index_or below n false
token_uses v below (Power e) = false
token_uses v below Add = false
token_uses v below Subtract = false
token_uses v below Multiply = false

abbrev pub any_uses : ℕ → List Bool → List Token → Bool
any_uses v below ts = list_any (token_uses v below) ts

abbrev pub uses : ℕ → List (List ℕ) → List Bool
uses v texts = by_line (any_uses v) texts

-- ---- a line is built from its own tokens and those of the lines that it names, through all levels
abbrev pub named : List (List Token) → Token → List Token
named below (Constant x) = []
named below (Variable w) = []
named below (Line n) = slice_index_or below n []
named below (Power e) = []
named below Add = []
named below Subtract = []
named below Multiply = []

abbrev pub all_named : List (List Token) → List Token → List Token
all_named below [] = []
all_named below (t ∷ ts) = t ∷ (named below t ++ all_named below ts)

abbrev pub built_from : List (List ℕ) → List (List Token)
built_from texts = by_line all_named texts

-- ---- the exact value at a point, in fractions of a unit; none where an operand is missing, or more than one is left

-- a value goes onto the operands, the newest first
abbrev pub pushed : Option Fraction → List Fraction → Option (List Fraction)
pushed x s = option_map (λ y. y ∷ s) x

abbrev pub on_one : (Fraction → Option Fraction) → List Fraction → Option (List Fraction)
on_one f [] = None
on_one f (x ∷ s) = pushed (f x) s

abbrev pub on_two : (Fraction → Fraction → Option Fraction) → List Fraction → Option (List Fraction)
on_two f [] = None
on_two f (y ∷ []) = None
on_two f (y ∷ (x ∷ s)) = pushed (f x y) s

-- the operand that stands alone
abbrev pub alone : List Fraction → Option Fraction
alone [] = None
alone (x ∷ []) = Some x
alone (x ∷ (y ∷ s)) = None

-- on with the operands, where there are any
abbrev pub onward : Option (List Fraction) → (List Fraction → Option Fraction) → Option Fraction
onward None f = None
onward (Some s) f = f s

-- a constant's value: none of what is not finite
abbrev pub constant_value : Float → Option Fraction
constant_value x = cond (float_is_finite x) (Some (value x)) None

module _ (S : ℕ) (point : List Fraction) where
  -- a variable is its mark over the scale, a line its own value; the operations are the ordinary ones
  abbrev pub exact_token : List (Option Fraction) → List Fraction → Token → Option (List Fraction)
  exact_token below s (Constant x) = pushed (constant_value x) s
  exact_token below s (Variable v) = pushed (option_map (λ p. per p S) (slice_get point v)) s
  exact_token below s (Line n) = pushed (slice_index_or below n None) s
  exact_token below s (Power e) = on_one (λ x. Some (powᶠ x e)) s
  exact_token below s Add = on_two (λ x y. Some (x +ᶠ y)) s
  exact_token below s Subtract = on_two (λ x y. Some (x -ᶠ y)) s
  exact_token below s Multiply = on_two (λ x y. Some (x *ᶠ y)) s

  -- the value that the tokens leave on operands
  abbrev pub exact_run : List (Option Fraction) → List Fraction → List Token → Option Fraction
  exact_run below s [] = alone s
  exact_run below s (t ∷ ts) = onward (exact_token below s t) (λ r. exact_run below r ts)

  abbrev pub exact_tokens : List (Option Fraction) → List Token → Option Fraction
  exact_tokens below ts = exact_run below [] ts

  -- the value of each line, and times the scale its value in marks
  abbrev pub exact : List (List ℕ) → List (Option Fraction)
  exact texts = by_line exact_tokens texts

  abbrev pub exact_marks : List (List ℕ) → ℕ → Option Fraction
  exact_marks texts n = option_map (λ x. x *ᶠ whole (pos S)) (slice_index_or (exact texts) n None)
