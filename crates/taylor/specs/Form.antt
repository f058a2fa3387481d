-- The form that models keep: ascending terms, bounded degrees and bounded ends. Assumes nothing.
use Rattle.std.specs.Prelude.{◌≡◌, ℕ, ◌*◌, ◌≤◌, false, List, length, ◌≤ℤ◌}
use Rattle.std.specs.List.{AllByRecursion}
use Rattle.interval.specs.Interval.{limit, Sized, Fits, is_zero}
use Rattle.interval.specs.Kind.{twice_limit}
use Rattle.table.specs.Monomial.{degree}
use Rattle.table.specs.Order.{by_degree}
use Rattle.table.specs.Slice.{Packs}
use Rattle.table.specs.Table.{Ascending}
use Rattle.polynomial.specs.declared.term.Term.{Term}
use Rattle.polynomial.specs.Reach.{zero_term}
use Rattle.polynomial.specs.Method.{MethodMeaning}
use Rattle.taylor.specs.declared.model.ModelRecord.{ModelRecord}
use Rattle.taylor.specs.Model.{Model, unpacked, full_range}

-- six exponents, and a coefficient whose ends are in order and not both 0
pub record NormalTerm (t : Term) : Type 0 where
  pub six : length t.monomial ≡ 6
  pub order : t.coefficient.lower ≤ℤ t.coefficient.upper
  pub some : is_zero t.coefficient ≡ false

-- at most 40 such terms, ascending, and a remainder whose ends are in order
pub record Normal (M : Model) : Type 0 where
  pub few : length M.terms ≤ 40
  pub ascends : Ascending by_degree (λ t. t.monomial) M.terms
  pub each : AllByRecursion NormalTerm M.terms
  pub order : M.remainder.lower ≤ℤ M.remainder.upper

-- no degree is above d
abbrev pub Degrees : ℕ → List Term → Type 0
Degrees d ts = AllByRecursion (λ t. degree t.monomial ≤ d) ts

-- no end lies above n marks or below -n
pub record SizedModel (n : ℕ) (M : Model) : Type 0 where
  pub coefficients : AllByRecursion (λ t. Sized n t.coefficient) M.terms
  pub remainder : Sized n M.remainder

-- a normal model of degree at most d, with ends of at most n marks
pub record Formed (d n : ℕ) (M : Model) : Type 0 where
  pub normal : Normal M
  pub degrees : Degrees d M.terms
  pub sized : SizedModel n M

-- the greatest order, and the record of a model of at most that degree
abbrev pub greatest_order : ℕ
greatest_order = 8

pub record Canonical (r : ModelRecord) : Type 0 where
  pub packs : Packs 40 zero_term r.terms r.count (unpacked r).terms
  pub normal : Normal (unpacked r)
  pub degrees : Degrees greatest_order (unpacked r).terms

-- a normal model that has passed the test
pub record Tested (m : MethodMeaning) (M : Model) : Type 0 where
  pub normal : Normal M
  pub sized : SizedModel limit M
  pub range : Fits (m.range M.terms)
  pub full : Fits (full_range m M)

-- ---- on the way to a result: [0, 0] may stand among the coefficients, and more than 40 terms
pub record DraftTerm (d n : ℕ) (t : Term) : Type 0 where
  pub six : length t.monomial ≡ 6
  pub low : degree t.monomial ≤ d
  pub sized : Sized n t.coefficient

pub record Draft (d n : ℕ) (ts : List Term) : Type 0 where
  pub ascends : Ascending by_degree (λ t. t.monomial) ts
  pub each : AllByRecursion (DraftTerm d n) ts

-- pairs that are gathered into a model: a draft, and a remainder of at most r marks
pub record Gathering (d n r : ℕ) (M : Model) : Type 0 where
  pub draft : Draft d n M.terms
  pub remainder : Sized r M.remainder

-- ---- the record that pairs are gathered into
-- the terms in use come first, and zero terms after them
abbrev pub InPlaces : ModelRecord → Type 0
InPlaces M = Packs 40 zero_term M.terms M.count (unpacked M).terms

-- packed terms, and ends that so many pairs can add up to
pub record Tallied (pairs : ℕ) (M : ModelRecord) : Type 0 where
  pub packs : InPlaces M
  pub few : pairs ≤ 1600
  pub bounds : Gathering greatest_order (pairs * limit) (pairs * twice_limit) (unpacked M)
