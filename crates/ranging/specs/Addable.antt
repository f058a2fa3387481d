-- Which polynomials are added up in 64 bits. Assumes nothing.
use Rattle.std.specs.Prelude.{◌^◌, ◌≤◌, List, length}
use Rattle.std.specs.List.{AllByRecursion}
use Rattle.interval.specs.Interval.{Sized}
use Rattle.polynomial.specs.declared.term.Term.{Term}

-- at most 40 terms, whose ends lie from -2^48 to 2^48
pub record Addable (ts : List Term) : Type 0 where
  pub few : length ts ≤ 40
  pub sized : AllByRecursion (λ t. Sized (2 ^ 48) t.coefficient) ts
