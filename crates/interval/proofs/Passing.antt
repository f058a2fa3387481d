-- What an accepted result says of the tests and results that stand before it, and none of a test. Assumes nothing.
use Rattle.std.proofs.Common.{◌≡◌, Bool, true, false, cond, Some, None, Ok, Err, Result, sym, refl, subst}
use Rattle.std.proofs.lemmas.Option.{none-some}
use Rattle.interval.specs.Reason.{and_then, require}

abbrev Accepted : {A E : Type 0} → Result A E → Type 0
Accepted (Ok x) = Unit {0}
Accepted (Err e) = ⊥

pub same-value : {A E : Type 0} {x y : A} → ◌≡◌ {A = Result A E} (Ok x) (Ok y) → x ≡ y
same-value e = cc

-- a refusal is no answer
pub not_refused : {A E : Type 0} {x : A} {e : E} → ◌≡◌ {A = Result A E} (Err e) (Ok x) → ⊥
not_refused q = subst Accepted (sym q) tt

pub and_then_ok : {A B E : Type 0} (r : Result A E) (f : A → Result B E) {y : B} → and_then r f ≡ Ok y → (x : A) × (r ≡ Ok x) × (f x ≡ Ok y)
and_then_ok (Ok x) f q = (x, refl, q)
and_then_ok (Err e) f q = absurd (not_refused q)

pub require_ok : {A E : Type 0} (b : Bool) (e : E) (r : Result A E) {y : A} → require b e r ≡ Ok y → (b ≡ true) × (r ≡ Ok y)
require_ok true e r q = (refl, q)
require_ok false e r q = absurd (not_refused q)

-- where a test chose none, it failed
pub none_chosen : {A : Type 0} (x : A) (b : Bool) → None ≡ cond b (Some x) None → b ≡ false
none_chosen x true e = absurd (none-some x e)
none_chosen x false e = refl
