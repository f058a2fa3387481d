-- Where a reason arose: at a place, and then at a line. Assumes nothing.
use Rattle.std.specs.Prelude.{ℕ, Ok, Err, Result}
use Rattle.interval.specs.declared.reason.Reason.{Reason}
use Rattle.interval.specs.declared.refusal.Refusal.{Refusal}
use Rattle.formula.specs.declared.fault.Fault.{Fault}

-- a reason, and the byte of the text or the variable where it arose
abbrev pub fault : Reason → ℕ → Fault
fault e i = record { reason = e; place = i }

abbrev pub at_place : {A : Type 0} → ℕ → Result A Reason → Result A Fault
at_place i (Ok x) = Ok x
at_place i (Err e) = Err (fault e i)

abbrev pub refusal : Reason → ℕ → ℕ → Refusal
refusal e n i = record { reason = e; line = n; place = i }

-- a fault becomes a refusal at a line
abbrev pub at_line : {A : Type 0} → ℕ → Result A Fault → Result A Refusal
at_line n (Ok x) = Ok x
at_line n (Err f) = Err (refusal f.reason n f.place)
