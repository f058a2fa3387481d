-- The shape that the record of a sheet keeps. Assumes nothing.
use Rattle.std.specs.Prelude.{ℕ, ◌≤◌, List, take, sum_by}
use Rattle.std.specs.List.{AllByRecursion}
use Rattle.interval.specs.declared.variable.Variable.{Variable}
use Rattle.interval.specs.Interval.{limit, Bounded}
use Rattle.table.specs.Order.{by_number}
use Rattle.table.specs.Slice.{Packs}
use Rattle.table.specs.Table.{Ascending}
use Rattle.taylor.specs.Form.{greatest_order}
use Rattle.taylor.specs.Record.{Held}
use Rattle.formula.specs.Work.{no_variable}
use Rattle.sheet.specs.declared.account.Account.{Account}
use Rattle.sheet.specs.declared.line.LineRecord.{LineRecord}
use Rattle.sheet.specs.declared.record.SheetRecord.TheInside.{Inside}
use Rattle.sheet.specs.State.{account}
use Rattle.sheet.specs.Opening.{largest_allowance}
use Rattle.sheet.specs.Records.{zero_line}

-- the number lies from a to b
pub record FromTo (a b n : ℕ) : Type 0 where
  pub low : a ≤ n
  pub high : n ≤ b

-- centre and half width fit
pub record FitVariable (v : Variable) : Type 0 where
  pub centre : Bounded limit v.centre
  pub half : Bounded limit v.half

-- one to six variables in use, and no more
pub record BoxShape (count : ℕ) (vs : List Variable) : Type 0 where
  pub size : FromTo 1 6 count
  pub packs : Packs 6 no_variable vs count (take count vs)
  pub each : AllByRecursion FitVariable (take count vs)

-- a text of 1 to 255 bytes with zeros after them, and the record of a model whose ends fit
pub record LineShape (l : LineRecord) : Type 0 where
  pub size : FromTo 1 255 l.length
  pub text : Packs 255 0 l.text l.length (take l.length l.text)
  pub model : Held limit l.worked.model

-- up to twelve lines stand, and past them is nothing but zeros
pub record LinesShape (count : ℕ) (ls : List LineRecord) : Type 0 where
  pub packs : Packs 12 zero_line ls count (take count ls)
  pub each : AllByRecursion LineShape (take count ls)

-- up to eight accounts, ascending by office, whose pairs are within the allowance
pub record AccountsShape (allowance count : ℕ) (entries : List Account) : Type 0 where
  pub packs : Packs 8 (account 0 0) entries count (take count entries)
  pub ascends : Ascending by_number (λ a. a.office) (take count entries)
  pub paid : sum_by (λ a. a.pairs) (take count entries) ≤ allowance

pub record Shape (s : Inside) : Type 0 where
  pub order : FromTo 1 greatest_order s.order
  pub allowance : FromTo 1 largest_allowance s.allowance
  pub box : BoxShape s.inputs s.variables
  pub lines : LinesShape s.standing s.lines
  pub accounts : AccountsShape s.allowance s.offices s.accounts
