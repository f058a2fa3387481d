-- What is known where a result was refused, and where it was not. Assumes nothing.
use Rattle.std.proofs.Common.{◌≡◌, Bool, true, Ok, Err, Result, IsErrAnd, refl, ap}
use Rattle.interval.specs.Reason.{require}
pub use Rattle.interval.proofs.Passing.{same-value, not_refused, and_then_ok, require_ok}

-- what ? passes on is the refusal that it met
pub passed_on : {A E : Type 0} (r : Result A E) {e : E} → IsErrAnd r (λ d. d ≡ e) → r ≡ Err e
passed_on (Ok x) h = absurd h
passed_on (Err d) h = ap Err h

pub require_yes : {A E : Type 0} (b : Bool) (e : E) (r : Result A E) → b ≡ true → require b e r ≡ r
require_yes b e r t = rw t refl
