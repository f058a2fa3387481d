-- One formula over a box of given ends: what it is worked to, and what its model tells. Assumes nothing.
use Rattle.std.specs.Prelude.{◌≡◌, ℕ, Bool, true, List, [], length, pos, Some, Ok, Option, Result}
use Rattle.std.specs.Option.{option_map}
use Rattle.std.specs.List.{AllByRecursion}
use Rattle.rational.specs.Fraction.{Fraction, whole, ◌*ᶠ◌}
use Rattle.interval.specs.declared.reason.Reason.TheVariants.{OrderOutOfRange, VariablesOutOfRange, TextOutOfRange}
use Rattle.interval.specs.declared.refusal.Refusal.{Refusal}
use Rattle.interval.specs.Reason.{and_then, require}
use Rattle.interval.specs.Variable.{Sound}
use Rattle.interval.specs.Kind.{KindMeaning}
use Rattle.polynomial.specs.Method.{MethodMeaning}
use Rattle.taylor.specs.Box.{InBox, units}
use Rattle.taylor.specs.Model.{Model}
use Rattle.taylor.specs.Product.{Worked}
use Rattle.taylor.specs.Exactness.{Whole}
use Rattle.formula.specs.declared.fault.Fault.{Fault}
use Rattle.formula.specs.Fault.{fault, at_line}
use Rattle.formula.specs.Inputs.{Ends, from_to, box_of, ends_tested, text_fits}
use Rattle.formula.specs.Token.{tokens}
use Rattle.formula.specs.Work.{ground, work}
use Rattle.formula.specs.Meaning.{exact_tokens}
use Rattle.formula.specs.WorkLaws.{InBounds, WholeToken, ExactModel}

module _ (k : KindMeaning) (m : MethodMeaning) (order : ℕ) (ends : List Ends) (text : List ℕ) where
  -- the order, the number of variables, their ends one by one and the text's length are tested; then the text is worked with no lines
  unfoldable pub worked_alone : Result Worked Fault
  worked_alone =
      require (from_to 1 8 order) (fault OrderOutOfRange 0)
      (require (from_to 1 6 (length ends)) (fault VariablesOutOfRange 0)
      (and_then (ends_tested k.scale 0 ends) (λ _.
      require (text_fits text) (fault TextOutOfRange 0)
      (work k m (ground order (box_of k ends) []) text))))

  -- every refusal is at line 0; its place is a variable, or a byte of the text
  abbrev pub enclosing : Result Worked Refusal
  enclosing = at_line 0 worked_alone

-- ---- what the model tells

-- the exact value of a formula that names no lines, in marks, at a point
abbrev pub formula_marks : ℕ → List Fraction → List ℕ → Option Fraction
formula_marks S point text = option_map (λ x. x *ᶠ whole (pos S)) (exact_tokens S point [] (tokens text))

-- the model M, with its clean mark, encloses the formula
pub record Enclosed (k : KindMeaning) (m : MethodMeaning) (ends : List Ends) (text : List ℕ) (M : Model) (clean : Bool) : Type 0 where
  -- each variable's span holds the ends that were given for it
  pub spans : AllByRecursion (Sound k.scale) (box_of k ends)
  -- at every point of the box the formula has an exact value; in marks it lies between the two ends of the polynomial's value, each plus that
  -- end of the remainder, and in the method's range plus the remainder
  pub bounds : (point : List Fraction) → InBox (box_of k ends) point →
      (v : Fraction) × (formula_marks k.scale point text ≡ Some v) × InBounds m (units (box_of k ends) point) M v
  -- where a mark is a unit and every interval that fits is split at its lower end: if no pair was cut and every constant is whole, the remainder
  -- is [0, 0], and both ends of the polynomial's value are the exact value
  pub exact : Whole k → clean ≡ true → AllByRecursion WholeToken (tokens text) → (point : List Fraction) → InBox (box_of k ends) point →
      (v : Fraction) × (formula_marks k.scale point text ≡ Some v) × ExactModel (units (box_of k ends) point) M v

-- whatever is answered is enclosed
abbrev pub FormulasEnclosed : Type 0
FormulasEnclosed = (k : KindMeaning) (m : MethodMeaning) (order : ℕ) (ends : List Ends) (text : List ℕ) (w : Worked) →
    enclosing k m order ends text ≡ Ok w → Enclosed k m ends text w.model w.clean
