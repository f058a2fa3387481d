-- Posting a text. Assumes nothing.
use Rattle.std.specs.Prelude.{ℕ, Bool, List, [], ◌∷◌, ◌++◌, length, Ok, Result, nat_lt}
use Rattle.interval.specs.declared.reason.Reason.TheVariants.{OfficeOutOfRange, LinesFull, TooFewRecords, TextOutOfRange, AccountsFull, AllowancePassed}
use Rattle.interval.specs.declared.refusal.Refusal.{Refusal}
use Rattle.interval.specs.Reason.{and_then, require}
use Rattle.interval.specs.Kind.{KindMeaning}
use Rattle.polynomial.specs.Method.{MethodMeaning}
use Rattle.formula.specs.declared.fault.Fault.{Fault}
use Rattle.formula.specs.Fault.{fault}
pub use Rattle.formula.specs.Inputs.{text_fits}
use Rattle.formula.specs.Work.{ground, work}
use Rattle.sheet.specs.State.{Line, line, State, workeds, at_line, Outcome, settled, known_office, can_charge, affordable, charged, enough_records}

-- a line is added last, and its pairs are charged
abbrev pub with_line : State → Line → State
with_line s l = record {
  order = s.order;
  box = s.box;
  allowance = s.allowance;
  lines = s.lines ++ (l ∷ []);
  accounts = charged s.accounts l.office l.worked.pairs;
}

module _ (k : KindMeaning) (m : MethodMeaning) where
  -- the line that an office's text gives
  unfoldable pub line_for : State → ℕ → ℕ → List ℕ → Result Line Fault
  line_for s office records text =
      require (known_office office) (fault OfficeOutOfRange 0)
      (require (nat_lt (length s.lines) 12) (fault LinesFull 0)
      (require (enough_records records) (fault TooFewRecords 0)
      (require (text_fits text) (fault TextOutOfRange 0)
      (require (can_charge s office) (fault AccountsFull 0)
      (and_then (work k m (ground s.order s.box (workeds s.lines)) text) (λ w.
      require (affordable s w.pairs) (fault AllowancePassed 0)
      (Ok (line office text w))))))))

  -- it is added; the answer is its number, its pairs and its clean mark. Every refusal is at that number
  abbrev pub posted : State → ℕ → ℕ → List ℕ → Result (State × (ℕ × ℕ × Bool)) Refusal
  posted s office records text =
      let n = length s.lines in
      and_then (at_line n (line_for s office records text)) (λ l. Ok (with_line s l, (n, l.worked.pairs, l.worked.clean)))

  abbrev pub post : State → ℕ → ℕ → List ℕ → Outcome (ℕ × ℕ × Bool)
  post s office records text = settled s (posted s office records text)
