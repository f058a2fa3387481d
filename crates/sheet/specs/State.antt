-- What a sheet holds, and what a turn leaves and answers. Assumes nothing.
use Rattle.std.specs.Prelude.{ℕ, ◌+◌, Bool, ◌||◌, List, [], map, length, Ok, Err, sum_by, Result, nat_le, nat_lt, slice_index_or}
use Rattle.interval.specs.declared.refusal.Refusal.{Refusal}
use Rattle.interval.specs.declared.variable.Variable.{Variable}
use Rattle.table.specs.Order.{by_number}
use Rattle.table.specs.Table.{has_key, entered}
use Rattle.taylor.specs.Model.{Model}
use Rattle.taylor.specs.Product.{Worked}
use Rattle.formula.specs.Work.{no_line}
pub use Rattle.formula.specs.Fault.{refusal, at_line}
pub use Rattle.formula.specs.Inputs.{from_to}
use Rattle.sheet.specs.declared.account.Account.{Account}

-- a line: the office that posted it, its text, and what the text gave (a model, pairs, a clean mark)
pub record Line : Type 0 where
  pub office : ℕ
  pub text : List ℕ
  pub worked : Worked

abbrev pub line : ℕ → List ℕ → Worked → Line
line o t w = record { office = o; text = t; worked = w }

pub record State : Type 0 where
  pub order : ℕ
  pub box : List Variable
  pub allowance : ℕ
  pub lines : List Line
  pub accounts : List Account

-- the texts of lines, and what they gave
abbrev pub texts : List Line → List (List ℕ)
texts ls = map (λ l. l.text) ls

abbrev pub workeds : List Line → List Worked
workeds ls = map (λ l. l.worked) ls

-- line n; the default is met only where no line n stands
abbrev pub line_at : State → ℕ → Line
line_at s n = slice_index_or s.lines n (line 0 [] no_line)

abbrev pub model_at : State → ℕ → Model
model_at s n = (line_at s n).worked.model

-- ---- what a turn leaves, and what it answers
pub record Outcome (A : Type 0) : Type 0 where
  pub state : State
  pub answer : Result A Refusal

abbrev pub outcome : {A : Type 0} → State → Result A Refusal → Outcome A
outcome s r = record { state = s; answer = r }

-- a refused turn leaves all as it was
abbrev pub settled : {A : Type 0} → State → Result (State × A) Refusal → Outcome A
settled s (Ok (t, x)) = outcome t (Ok x)
settled s (Err e) = outcome s (Err e)

-- ---- offices and accounts; accounts ascend by office
abbrev pub known_office : ℕ → Bool
known_office o = from_to 1 255 o

abbrev pub account : ℕ → ℕ → Account
account o n = record { office = o; pairs = n }

abbrev pub has_account : List Account → ℕ → Bool
has_account accounts o = has_key by_number (λ a. a.office) accounts o

-- the office has an account, or one can be opened
abbrev pub can_charge : State → ℕ → Bool
can_charge s o = has_account s.accounts o || nat_lt (length s.accounts) 8

-- the pairs with those of all accounts do not pass the allowance
abbrev pub affordable : State → ℕ → Bool
affordable s n = nat_le (n + sum_by (λ a. a.pairs) s.accounts) s.allowance

-- the pairs are added to the office's account, which is opened if there is none
abbrev pub charged : List Account → ℕ → ℕ → List Account
charged accounts o n = entered by_number (λ a. a.office) (λ a b. account a.office (a.pairs + b.pairs)) accounts (account o n)

-- the same sheet, with the pairs charged to the office
abbrev pub charged_state : State → ℕ → ℕ → State
charged_state s o n = record { order = s.order; box = s.box; allowance = s.allowance; lines = s.lines; accounts = charged s.accounts o n }

-- a posting and a narrowing ask for so many working records
abbrev pub enough_records : ℕ → Bool
enough_records n = nat_le 21 n
