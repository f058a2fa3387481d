-- Readings: a line's model, a line's range, an account's pairs. Assumes nothing.
use Rattle.std.specs.Prelude.{ℕ, length, Ok, Result, nat_lt}
use Rattle.interval.specs.declared.marks.Interval.{Interval}
use Rattle.interval.specs.declared.reason.Reason.TheVariants.{NoLineToRead, NoAccount}
use Rattle.interval.specs.declared.refusal.Refusal.{Refusal}
use Rattle.interval.specs.Reason.{require}
use Rattle.table.specs.Order.{by_number}
use Rattle.table.specs.Table.{entry}
use Rattle.polynomial.specs.Method.{MethodMeaning}
use Rattle.taylor.specs.Model.{Model, full_range}
use Rattle.sheet.specs.State.{State, model_at, refusal, account, has_account}

unfoldable pub read_model : State → ℕ → Result Model Refusal
read_model s n = require (nat_lt n (length s.lines)) (refusal NoLineToRead n 0) (Ok (model_at s n))

-- the method's range of the polynomial plus the remainder
unfoldable pub read_range : MethodMeaning → State → ℕ → Result Interval Refusal
read_range m s n = require (nat_lt n (length s.lines)) (refusal NoLineToRead n 0) (Ok (full_range m (model_at s n)))

unfoldable pub read_account : State → ℕ → Result ℕ Refusal
read_account s o =
    require (has_account s.accounts o) (refusal NoAccount 0 0)
    (Ok (entry by_number (λ a. a.office) (account o 0) s.accounts o).pairs)
