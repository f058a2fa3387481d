-- Striking the newest line. Assumes nothing.
use Rattle.std.specs.Prelude.{ℕ, ◌-◌, length, take, Ok, Result, ◌==◌, nat_lt}
use Rattle.interval.specs.declared.reason.Reason.TheVariants.{OfficeOutOfRange, NoLineToStrike, PostedByAnother}
use Rattle.interval.specs.declared.refusal.Refusal.{Refusal}
use Rattle.interval.specs.Reason.{require}
use Rattle.sheet.specs.State.{State, line_at, refusal, Outcome, settled, known_office}

-- the accounts stay
abbrev pub without_newest : State → State
without_newest s = record {
  order = s.order;
  box = s.box;
  allowance = s.allowance;
  lines = take (length s.lines - 1) s.lines;
  accounts = s.accounts;
}

-- only the office that posted the newest line may strike it
unfoldable pub struck : State → ℕ → Result (State × Unit) Refusal
struck s office =
    let newest = length s.lines - 1 in
    require (known_office office) (refusal OfficeOutOfRange 0 0)
    (require (nat_lt 0 (length s.lines)) (refusal NoLineToStrike 0 0)
    (require ((line_at s newest).office == office) (refusal PostedByAnother newest 0)
    (Ok (without_newest s, tt))))

abbrev pub strike : State → ℕ → Outcome Unit
strike s office = settled s (struck s office)
