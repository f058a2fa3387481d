-- An answer has neither place nor line, so it is the answer that was given them. Assumes nothing.
use Rattle.std.proofs.Common.{◌≡◌, ℕ, Ok, Err, Result, ap}
use Rattle.interval.specs.declared.reason.Reason.{Reason}
use Rattle.taylor.proofs.Results.{same-value, not_refused}
use Rattle.formula.specs.declared.fault.Fault.{Fault}
use Rattle.formula.specs.Fault.{at_place, at_line}

pub at_place_ok : {A : Type 0} (i : ℕ) (r : Result A Reason) {y : A} → at_place i r ≡ Ok y → r ≡ Ok y
at_place_ok i (Ok x) q = ap Ok (same-value q)
at_place_ok i (Err e) q = absurd (not_refused q)

pub at_line_ok : {A : Type 0} (n : ℕ) (r : Result A Fault) {y : A} → at_line n r ≡ Ok y → r ≡ Ok y
at_line_ok n (Ok x) q = ap Ok (same-value q)
at_line_ok n (Err f) q = absurd (not_refused q)
