-- Narrowing a variable. Assumes nothing.
use Rattle.std.specs.Prelude.{ℕ, ◌+◌, Bool, true, false, not, ◌&&◌, List, [], ◌∷◌, ◌++◌, length, Ok, Result, nat_lt, slice_index_or, slice_set, Float}
use Rattle.std.specs.Float.Ieee.{lt}
use Rattle.interval.specs.declared.reason.Reason.TheVariants.{OfficeOutOfRange, TooFewRecords, AccountsFull, AllowancePassed, NoVariableToNarrow, NewEndsUnsound, EndOutside}
use Rattle.interval.specs.declared.refusal.Refusal.{Refusal}
use Rattle.interval.specs.declared.variable.Variable.{Variable}
use Rattle.interval.specs.Reason.{and_then, require}
use Rattle.interval.specs.Variable.{both_finite, uncrossed, variable}
use Rattle.interval.specs.Kind.{KindMeaning}
use Rattle.polynomial.specs.Method.{MethodMeaning}
use Rattle.taylor.specs.Product.{Worked}
use Rattle.formula.specs.Work.{ground, no_variable, work}
use Rattle.formula.specs.Meaning.{uses}
use Rattle.sheet.specs.State.{Line, line, State, texts, workeds, refusal, at_line, Outcome, settled, known_office, can_charge, affordable, charged, enough_records}

-- finite and not crossed
abbrev pub sound_ends : Float → Float → Bool
sound_ends x y = both_finite x y && uncrossed x y

-- neither new end lies outside the standing ones, as numbers
abbrev pub inside : Variable → Float → Float → Bool
inside v x y = not (lt x v.lower) && not (lt v.upper y)

-- ---- the lines, one after the other
-- the lines so far, how many of them were worked again, and the pairs of those
pub record Rework : Type 0 where
  pub lines : List Line
  pub count : ℕ
  pub pairs : ℕ

abbrev pub no_rework : Rework
no_rework = record { lines = []; count = 0; pairs = 0 }

abbrev pub kept_line : Rework → Line → Rework
kept_line r l = record { lines = r.lines ++ (l ∷ []); count = r.count; pairs = r.pairs }

-- it keeps its office and its text
abbrev pub worked_line : Rework → Line → Worked → Rework
worked_line r l w = record { lines = r.lines ++ (line l.office l.text w ∷ []); count = r.count + 1; pairs = r.pairs + w.pairs }

module _ (k : KindMeaning) (m : MethodMeaning) (order : ℕ) (box : List Variable) where
  -- lines in ascending order, with their marks: a marked line is worked again from the lines below as they then are
  unfoldable pub rework : Rework → List Line → List Bool → Result Rework Refusal
  rework r [] marks = Ok r
  rework r (l ∷ ls) [] = Ok r
  rework r (l ∷ ls) (false ∷ marks) = rework (kept_line r l) ls marks
  rework r (l ∷ ls) (true ∷ marks) =
      and_then (at_line (length r.lines) (work k m (ground order box (workeds r.lines)) l.text)) (λ w.
      rework (worked_line r l w) ls marks)

-- ---- the turn
abbrev pub with_box : State → List Variable → List Line → ℕ → ℕ → State
with_box s box lines office pairs = record {
  order = s.order;
  box = box;
  allowance = s.allowance;
  lines = lines;
  accounts = charged s.accounts office pairs;
}

module _ (k : KindMeaning) (m : MethodMeaning) where
  -- the lines that use the variable are worked again; the answer is how many these are, and their pairs
  unfoldable pub narrowed : State → ℕ → ℕ → ℕ → Float → Float → Result (State × (ℕ × ℕ)) Refusal
  narrowed s office records v x y =
      let box = slice_set s.box v (variable k.scale x y) in
      require (known_office office) (refusal OfficeOutOfRange 0 0)
      (require (enough_records records) (refusal TooFewRecords 0 0)
      (require (can_charge s office) (refusal AccountsFull 0 0)
      (require (nat_lt v (length s.box)) (refusal NoVariableToNarrow 0 0)
      (require (sound_ends x y) (refusal NewEndsUnsound 0 0)
      (require (inside (slice_index_or s.box v no_variable) x y) (refusal EndOutside 0 0)
      (and_then (rework k m s.order box no_rework s.lines (uses v (texts s.lines))) (λ r.
      require (affordable s r.pairs) (refusal AllowancePassed 0 0)
      (Ok (with_box s box r.lines office r.pairs, (r.count, r.pairs))))))))))

  abbrev pub narrow : State → ℕ → ℕ → ℕ → Float → Float → Outcome (ℕ × ℕ)
  narrow s office records v x y = settled s (narrowed s office records v x y)
