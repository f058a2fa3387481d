-- A result read as text goes on where the call before it answered, and ends where it objected.
use Rattle.std.proofs.Common.{◌≡◌, IsErrAnd, Ok, Err, Result, ap, ◌∙◌}
use Rattle.std.proofs.lemmas.Result.{err_from_is_err_and}
use Rattle.interval.specs.Reason.{and_then}
use Rattle.batch.specs.declared.fault.Fault.{Fault}
use Rattle.batch.specs.Faults.{Objection, objection}
use Rattle.batch.specs.Statements.{read_as}

-- the exit of a `?`
pub ends : {A B D : Type 0} (view : A → B) (r : Result A Fault) (e : Fault) (x : Result D Objection) (f : D → Result B Objection) → IsErrAnd r (λ y. y ≡ e) → Err (objection e) ≡ x → read_as view r ≡ and_then x f
ends view r e x f h p =
    let q = err_from_is_err_and r h in
    ap (read_as view) (q.1 ∙ ap Err q.2) ∙ ap (λ y. and_then y f) p

-- the way on
pub goes_on : {B D : Type 0} (d : D) (x : Result D Objection) (f : D → Result B Objection) → Ok d ≡ x → f d ≡ and_then x f
goes_on d x f p = ap (λ y. and_then y f) p
