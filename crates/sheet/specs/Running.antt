-- A run: an opening, and turns after it, as the code is given them. Assumes nothing.
use Rattle.std.specs.Prelude.{ℕ, min, List, [], ◌∷◌, ◌++◌, Some, None, Option, Result}
use Rattle.std.specs.Result.{result_map_both}
use Rattle.interval.specs.declared.refusal.Refusal.{Refusal}
use Rattle.sheet.specs.declared.entry.Entry.{Entry}
use Rattle.sheet.specs.declared.given.Opening.{Opening as Given}
use Rattle.sheet.specs.declared.turn.Answer.{Answer as Told}
use Rattle.sheet.specs.Opening.{Opening, opening}
use Rattle.sheet.specs.Turn.{Turn}
use Rattle.sheet.specs.Reached.{Event, event, Log}
use Rattle.sheet.specs.Taking.{turn_of, answer_of}

abbrev pub given_of : Given → Opening
given_of g = opening g.order g.ends.now g.allowance

-- the turn of an entry, where n working records can be lent
abbrev pub entry_turn : ℕ → Entry → Turn
entry_turn n e = turn_of (min e.lent n) e.turn

-- the event that an entry tells of, once it has its answer
abbrev pub told_event : Turn → Option (Result Told Refusal) → List Event
told_event t None = []
told_event t (Some a) = event t (result_map_both answer_of (λ e. e) a) ∷ []

-- the log that entries tell
abbrev pub log_of : ℕ → List Entry → Log
log_of n [] = []
log_of n (e ∷ es) = told_event (entry_turn n e) e.answer ++ log_of n es
