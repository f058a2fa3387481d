-- The stack machine: what a text gives from an order, a box and the lines below it, or a refusal at a place. Assumes nothing.
use Rattle.std.specs.Prelude.{ℕ, ◌+◌, Bool, true, false, ◌&&◌, List, [], ◌∷◌, length, get_or, pos, Ok, Err, Result, nat_lt, slice_index_or}
use Rattle.std.specs.Float.{fin}
use Rattle.interval.specs.declared.reason.Reason.{Reason}
use Rattle.interval.specs.declared.reason.Reason.TheVariants.{TooFewOperands, TooManyOperands, OperandsLeft}
use Rattle.interval.specs.declared.variable.Variable.{Variable as Var}
use Rattle.interval.specs.Reason.{and_then, require}
use Rattle.interval.specs.Hull.{hull}
use Rattle.interval.specs.Kind.{KindMeaning}
use Rattle.polynomial.specs.Method.{MethodMeaning}
use Rattle.taylor.specs.Model.{Model, zero_model, tested}
use Rattle.taylor.specs.Arithmetic.{constant, variable_model, sum, difference}
use Rattle.taylor.specs.Product.{Worked, worked, times_worked, power}
pub use Rattle.formula.specs.declared.fault.Fault.{Fault}
use Rattle.formula.specs.declared.token.Token.{Token}
use Rattle.formula.specs.declared.token.Token.TheVariants.{Constant, Variable, Line, Power, Add, Subtract, Multiply}
pub use Rattle.formula.specs.Fault.{fault, at_place}
use Rattle.formula.specs.Token.{Item, items}
use Rattle.formula.specs.Admitted.{admitted}

-- what a text is worked from: the order, the box, and the lines that stand below
pub record Ground : Type 0 where
  pub order : ℕ
  pub box : List Var
  pub lines : List Worked

abbrev pub ground : ℕ → List Var → List Worked → Ground
ground n box lines = record { order = n; box = box; lines = lines }

-- the operands, the newest first, with the pairs so far and whether all is clean so far
pub record Stack : Type 0 where
  pub operands : List Model
  pub pairs : ℕ
  pub clean : Bool

abbrev pub stack : List Model → ℕ → Bool → Stack
stack Ms n b = record { operands = Ms; pairs = n; clean = b }

-- what stands in where a variable or a line does not stand; a text that names it is refused before it is read
abbrev pub no_variable : Var
no_variable = record { lower = fin false 0 (pos 0); upper = fin false 0 (pos 0); centre = pos 0; half = pos 0 }

abbrev pub no_line : Worked
no_line = worked zero_model 0 true

-- ---- running a token

-- an outcome goes onto the operands that are left
abbrev pub put : Stack → List Model → Result Worked Reason → Result Stack Reason
put s rest r = and_then r (λ w. Ok (stack (w.model ∷ rest) (s.pairs + w.pairs) (s.clean && w.clean)))

-- a model that passes the test, without pairs of its own
abbrev pub pairless : MethodMeaning → Model → Bool → Result Worked Reason
pairless m M b = and_then (tested m M) (λ N. Ok (worked N 0 b))

-- a new operand with its clean mark, the eighth at the most
abbrev pub push : MethodMeaning → Stack → Model → Bool → Result Stack Reason
push m s M b = require (nat_lt (length s.operands) 8) TooManyOperands (put s s.operands (pairless m M b))

abbrev pub unary : Stack → List Model → (Model → Result Worked Reason) → Result Stack Reason
unary s [] f = Err TooFewOperands
unary s (x ∷ rest) f = put s rest (f x)

abbrev pub binary : Stack → List Model → (Model → Model → Result Worked Reason) → Result Stack Reason
binary s [] f = Err TooFewOperands
binary s (y ∷ []) f = Err TooFewOperands
binary s (y ∷ (x ∷ rest)) f = put s rest (f x y)

-- at the end of a text of n bytes one operand is left
abbrev pub concluded : ℕ → Stack → List Model → Result Worked Fault
concluded n s [] = Err (fault TooFewOperands n)
concluded n s (x ∷ []) = Ok (worked x s.pairs s.clean)
concluded n s (x ∷ (y ∷ rest)) = Err (fault OperandsLeft n)

module _ (k : KindMeaning) (m : MethodMeaning) (g : Ground) where
  abbrev pub run_token : Stack → Token → Result Stack Reason
  run_token s (Constant x) = push m s (constant k (hull k.scale x)) true
  run_token s (Variable v) = push m s (variable_model v (slice_index_or g.box v no_variable)) true
  run_token s (Line n) = push m s (get_or g.lines n no_line).model (get_or g.lines n no_line).clean
  run_token s (Power e) = unary s s.operands (power k m g.order e)
  run_token s Add = binary s s.operands (λ x y. and_then (sum x y) (λ M. pairless m M true))
  run_token s Subtract = binary s s.operands (λ x y. and_then (difference x y) (λ M. pairless m M true))
  run_token s Multiply = binary s s.operands (λ x y. times_worked k m g.order (worked x 0 true) y)

  -- ---- a whole text

  -- an item is read, admitted, and then run
  abbrev pub run_item : Stack → Item → Result Stack Reason
  run_item s i = and_then i.token (λ t. and_then (admitted k.scale (length g.box) (length g.lines) t) (λ _. run_token s t))

  -- each item is read and run before the next
  unfoldable pub run_items : Stack → List Item → Result Stack Fault
  run_items s [] = Ok s
  run_items s (i ∷ is) = and_then (at_place i.place (run_item s i)) (λ t. run_items t is)

  -- THE WORK OF A TEXT: its model, its pairs and its clean mark
  unfoldable pub work : List ℕ → Result Worked Fault
  work text = and_then (run_items (stack [] 0 true) (items text)) (λ s. concluded (length text) s s.operands)
