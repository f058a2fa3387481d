-- What a ranging method means, and the plain range. Assumes nothing.
use Rattle.std.specs.Prelude.{◌≡◌, ◌≤◌, false, List, [], ◌∷◌, length, ◌≤ℤ◌}
use Rattle.std.specs.List.{AllByRecursion}
use Rattle.rational.specs.Fraction.{Fraction, whole, ◌≤ᶠ◌}
use Rattle.interval.specs.declared.marks.Interval.{Interval}
use Rattle.interval.specs.Interval.{Fits, zero_interval, is_zero, plus}
use Rattle.polynomial.specs.declared.term.Term.{Term}
use Rattle.table.specs.Order.{by_degree}
use Rattle.table.specs.Table.{Ascending}
use Rattle.polynomial.specs.Reach.{reach}
use Rattle.polynomial.specs.Value.{lower_value, upper_value, Units}

-- a term: six exponents, and a coefficient that fits and is not [0, 0]
pub record FitTerm (t : Term) : Type 0 where
  pub six : length t.monomial ≡ 6
  pub fit : Fits t.coefficient
  pub some : is_zero t.coefficient ≡ false

-- a polynomial whose coefficients fit: at most 40 ascending terms
pub record Polynomial (ts : List Term) : Type 0 where
  pub few : length ts ≤ 40
  pub ascends : Ascending by_degree (λ t. t.monomial) ts
  pub fit : AllByRecursion FitTerm ts

-- the reach of each coefficient under its monomial, added up
unfoldable pub plain : List Term → Interval
plain [] = zero_interval
plain (t ∷ ts) = plus (reach t.monomial t.coefficient) (plain ts)

-- i lies within j
pub record Within (i j : Interval) : Type 0 where
  pub low : j.lower ≤ℤ i.lower
  pub high : i.upper ≤ℤ j.upper

-- r holds the polynomial's value at the unit coordinates us
pub record Holds (us : List Fraction) (ts : List Term) (r : Interval) : Type 0 where
  pub low : whole r.lower ≤ᶠ lower_value us ts
  pub high : upper_value us ts ≤ᶠ whole r.upper

-- a range: within the plain range, and it holds the value at every unit point
pub record Ranges (ts : List Term) (r : Interval) : Type 0 where
  pub within : Within r (plain ts)
  pub holds : (us : List Fraction) → Units us → Holds us ts r

-- every polynomial whose coefficients fit gets a range
abbrev pub Lawful : (List Term → Interval) → Type 0
Lawful range = (ts : List Term) → Polynomial ts → Ranges ts (range ts)

pub record MethodMeaning : Type 0 where
  pub range : List Term → Interval
  pub laws : Lawful range

-- a method from a range that keeps the laws
abbrev pub method : (range : List Term → Interval) → Lawful range → MethodMeaning
method range laws = record { range = range; laws = laws }
