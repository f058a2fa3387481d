-- What a model tells of a formula's value, and the two laws of the work of a text: they carry this from the lines below to the next
-- line. Assumes nothing.
use Rattle.std.specs.Prelude.{◌≡◌, ℕ, ◌<◌, ◌≤◌, true, List, [], length, ℤ, Some, None, Ok, Option, slice_index_or}
use Rattle.std.specs.List.{AllByRecursion}
use Rattle.rational.specs.Fraction.{Fraction, whole, ◌=ᶠ◌}
use Rattle.interval.specs.declared.variable.Variable.{Variable as Var}
use Rattle.interval.specs.Interval.{zero_interval, ◌within◌}
use Rattle.interval.specs.Hull.{value}
use Rattle.interval.specs.Kind.{KindMeaning}
use Rattle.polynomial.specs.Method.{MethodMeaning}
use Rattle.taylor.specs.Box.{InBox, units}
use Rattle.taylor.specs.Model.{Model, full_range}
use Rattle.taylor.specs.Form.{Tested}
use Rattle.taylor.specs.Product.{Worked}
use Rattle.taylor.specs.Selection.{Encloses}
use Rattle.taylor.specs.Enclosure.{Carries}
use Rattle.taylor.specs.Exactness.{Whole, Pointed, Exact}
use Rattle.formula.specs.declared.token.Token.{Token}
use Rattle.formula.specs.declared.token.Token.TheVariants.{Constant, Variable, Line, Power, Add, Subtract, Multiply}
use Rattle.formula.specs.Token.{tokens}
use Rattle.formula.specs.Work.{ground, no_line, work}
use Rattle.formula.specs.Meaning.{all_named, exact_tokens}

-- ---- what a model tells of a value

-- v marks lie between the two ends of the model at unit coordinates us, and in its range
pub record InBounds (m : MethodMeaning) (us : List Fraction) (M : Model) (v : Fraction) : Type 0 where
  pub enclosed : Encloses us M v
  pub in_range : v within full_range m M

-- nothing is left to the remainder, and both ends of the polynomial's value are v
pub record ExactModel (us : List Fraction) (M : Model) (v : Fraction) : Type 0 where
  pub nothing_left : M.remainder ≡ zero_interval
  pub value : Exact us M v

-- ---- enclosure

-- a line has an exact value, and its model, which is tested, carries it at the unit coordinates us
pub record SoundLine (k : KindMeaning) (m : MethodMeaning) (us : List Fraction) (w : Worked) (x : Option Fraction) : Type 0 where
  pub value : Fraction
  pub exact : x ≡ Some value
  pub tested : Tested m w.model
  pub carries : Carries k us w.model value

-- each of some lines, with its exact value
pub record SoundLines (k : KindMeaning) (m : MethodMeaning) (us : List Fraction) (lines : List Worked) (exacts : List (Option Fraction)) : Type 0 where
  pub as_many : length lines ≡ length exacts
  pub each : (n : ℕ) → n < length lines → SoundLine k m us (slice_index_or lines n no_line) (slice_index_or exacts n None)

-- at a point of the box: over sound lines, a text that is worked gives a sound line
abbrev pub WorkSound : Type 0
WorkSound = (k : KindMeaning) (m : MethodMeaning) (order : ℕ) (box : List Var) (point : List Fraction) (lines : List Worked) (exacts : List (Option Fraction))
    (text : List ℕ) (w : Worked) → length box ≤ 6 → InBox box point → SoundLines k m (units box point) lines exacts →
    work k m (ground order box lines) text ≡ Ok w → SoundLine k m (units box point) w (exact_tokens k.scale point exacts (tokens text))

-- ---- the whole kind

-- a constant has a whole value; of other tokens nothing is asked
abbrev pub WholeToken : Token → Type 0
WholeToken (Constant x) = (z : ℤ) × (value x =ᶠ whole z)
WholeToken (Variable v) = Unit {0}
WholeToken (Line n) = Unit {0}
WholeToken (Power e) = Unit {0}
WholeToken Add = Unit {0}
WholeToken Subtract = Unit {0}
WholeToken Multiply = Unit {0}

-- a clean line that is built from whole constants has points for coefficients, and nothing is left over
abbrev pub WholeLine : Worked → List Token → Type 0
WholeLine w made = w.clean ≡ true → AllByRecursion WholeToken made → Pointed w.model

-- over such lines, a text that is worked gives such a line; `made` has the tokens that each line below is built from
abbrev pub WorkWhole : Type 0
WorkWhole = (k : KindMeaning) (m : MethodMeaning) → Whole k → (order : ℕ) (box : List Var) (lines : List Worked) (made : List (List Token)) (text : List ℕ) (w : Worked) →
    ((n : ℕ) → WholeLine (slice_index_or lines n no_line) (slice_index_or made n [])) → work k m (ground order box lines) text ≡ Ok w → WholeLine w (all_named made (tokens text))
