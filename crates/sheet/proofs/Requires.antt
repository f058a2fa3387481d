-- A test that fails gives its refusal. Assumes nothing.
use Rattle.std.proofs.Common.{◌≡◌, Bool, false, Err, Result, refl}
use Rattle.interval.specs.Reason.{require}

pub require_no : {A E : Type 0} (b : Bool) (e : E) (r : Result A E) → b ≡ false → require b e r ≡ Err e
require_no b e r f = rw f refl
