-- The records of a line and of a sheet, and what they say. Assumes nothing.
use Rattle.std.specs.Prelude.{ℕ, ◌+◌, ◌-◌, false, List, map, length, take, replicate, Ok, Err, Result, slice_set}
use Rattle.interval.specs.declared.refusal.Refusal.{Refusal}
use Rattle.interval.specs.declared.variable.Variable.{Variable}
use Rattle.interval.specs.Reason.{and_then}
use Rattle.table.specs.Slice as slice
use Rattle.taylor.specs.declared.model.ModelRecord.{ModelRecord}
use Rattle.taylor.specs.declared.worked.WorkedRecord.{WorkedRecord}
use Rattle.taylor.specs.Model.{Model, packed, zero_record}
use Rattle.taylor.specs.Record.{worked_of, packed_worked}
use Rattle.formula.specs.Work.{no_variable}
use Rattle.sheet.specs.declared.account.Account.{Account}
use Rattle.sheet.specs.declared.line.LineRecord.{LineRecord}
use Rattle.sheet.specs.declared.record.SheetRecord.TheInside.{Inside}
use Rattle.sheet.specs.State.{Line, line, State, account, charged}

-- what stands where no line does: nothing but zeros
abbrev pub zero_line : LineRecord
zero_line = record { office = 0; text = replicate 255 0; length = 0; worked = record { model = zero_record; pairs = 0; clean = false } }

-- the line that a record holds
abbrev pub line_of : LineRecord → Line
line_of l = line l.office (take l.length l.text) (worked_of l.worked)

-- the record of an office's text and of what it gave
abbrev pub recorded_line : ℕ → List ℕ → WorkedRecord → LineRecord
recorded_line office text w = record {
  office = office;
  text = slice.packed 255 0 text;
  length = length text;
  worked = w;
}

-- the records of the lines that stand
abbrev pub standing_lines : Inside → List LineRecord
standing_lines s = take s.standing s.lines

-- the sheet that a record holds: what its counts say is in use
abbrev pub state_of : Inside → State
state_of s = record {
  order = s.order;
  box = take s.inputs s.variables;
  allowance = s.allowance;
  lines = map line_of (standing_lines s);
  accounts = take s.offices s.accounts;
}

-- the record of a line, and that of a sheet: what is in use comes first, and nothing but zeros follows
abbrev pub record_of_line : Line → LineRecord
record_of_line l = recorded_line l.office l.text (packed_worked l.worked)

abbrev pub record_of : State → Inside
record_of s = record {
  order = s.order;
  allowance = s.allowance;
  inputs = length s.box;
  variables = slice.packed 6 no_variable s.box;
  standing = length s.lines;
  lines = slice.packed 12 zero_line (map record_of_line s.lines);
  offices = length s.accounts;
  accounts = slice.packed 8 (account 0 0) s.accounts;
}

-- that a reading is granted, or its refusal
abbrev pub granted : Result Model Refusal → Result Unit Refusal
granted r = and_then r (λ _. Ok tt)

-- the caller's record after a reading: the model's, or as it was
abbrev pub read_into : ModelRecord → Result Model Refusal → ModelRecord
read_into old (Ok M) = packed M
read_into old (Err e) = old

-- ---- what turns do to a record
-- a new sheet has so many variables, no lines and no accounts
abbrev pub opened_record : ℕ → ℕ → ℕ → List Variable → Inside
opened_record order allowance count vs = record {
  order = order;
  allowance = allowance;
  inputs = count;
  variables = vs;
  standing = 0;
  lines = replicate 12 zero_line;
  offices = 0;
  accounts = replicate 8 (account 0 0);
}

-- other lines
abbrev pub with_lines : Inside → ℕ → List LineRecord → Inside
with_lines s count ls = record {
  order = s.order;
  allowance = s.allowance;
  inputs = s.inputs;
  variables = s.variables;
  standing = count;
  lines = ls;
  offices = s.offices;
  accounts = s.accounts;
}

-- the newest line becomes zero
abbrev pub struck_record : Inside → Inside
struck_record s = with_lines s (s.standing - 1) (slice_set s.lines (s.standing - 1) zero_line)

-- a line is added last
abbrev pub added_record : Inside → LineRecord → Inside
added_record s l = with_lines s (s.standing + 1) (slice_set s.lines s.standing l)

-- other accounts
abbrev pub with_accounts : Inside → ℕ → List Account → Inside
with_accounts s count entries = record {
  order = s.order;
  allowance = s.allowance;
  inputs = s.inputs;
  variables = s.variables;
  standing = s.standing;
  lines = s.lines;
  offices = count;
  accounts = entries;
}

-- pairs are charged to an office
abbrev pub charged_record : Inside → ℕ → ℕ → Inside
charged_record s office pairs =
    let entries = charged (state_of s).accounts office pairs in
    with_accounts s (length entries) (slice.packed 8 (account 0 0) entries)
