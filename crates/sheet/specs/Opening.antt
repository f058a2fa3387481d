-- Opening a sheet. Assumes nothing.
use Rattle.std.specs.Prelude.{ℕ, [], length, Ok, Result}
use Rattle.interval.specs.declared.reason.Reason.TheVariants.{OrderOutOfRange, VariablesOutOfRange, AllowanceOutOfRange}
use Rattle.interval.specs.declared.refusal.Refusal.{Refusal}
use Rattle.interval.specs.Reason.{and_then, require}
use Rattle.interval.specs.Kind.{KindMeaning}
use Rattle.formula.specs.Inputs as inputs
use Rattle.sheet.specs.Box.{Ends, box_of}
use Rattle.sheet.specs.State.{State, from_to, refusal, at_line}

-- what an opening is given
pub record Opening : Type 0 where
  pub order : ℕ
  pub ends : Ends
  pub allowance : ℕ

abbrev pub opening : ℕ → Ends → ℕ → Opening
opening n es a = record { order = n; ends = es; allowance = a }

abbrev pub largest_allowance : ℕ
largest_allowance = 1_000_000_000

-- each variable's ends from number n on are tested in turn; a refusal has the variable's number as its place
abbrev pub ends_tested : ℕ → ℕ → Ends → Result Unit Refusal
ends_tested S n es = at_line 0 (inputs.ends_tested S n es)

-- a new sheet: the box, no lines and no accounts
abbrev pub opened : KindMeaning → Opening → State
opened k o = record { order = o.order; box = box_of k o.ends; allowance = o.allowance; lines = []; accounts = [] }

unfoldable pub open_sheet : KindMeaning → Opening → Result State Refusal
open_sheet k o =
    require (from_to 1 8 o.order) (refusal OrderOutOfRange 0 0)
    (require (from_to 1 6 (length o.ends)) (refusal VariablesOutOfRange 0 0)
    (require (from_to 1 largest_allowance o.allowance) (refusal AllowanceOutOfRange 0 0)
    (and_then (ends_tested k.scale 0 o.ends) (λ _. Ok (opened k o)))))
