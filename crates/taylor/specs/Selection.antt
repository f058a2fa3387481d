-- What a model says of a number of marks at a point: it selects it, and so encloses it. Assumes nothing.
use Rattle.std.specs.Prelude.{ℕ, List, pos}
use Rattle.rational.specs.Fraction.{Fraction, whole, ◌+ᶠ◌, ◌*ᶠ◌, ◌≤ᶠ◌, ◌=ᶠ◌}
use Rattle.interval.specs.Interval.{◌within◌}
use Rattle.polynomial.specs.Value.{lower_value, upper_value, Inside, value_with}
use Rattle.taylor.specs.Model.{Model}

-- x is the polynomial's value with one number in each coefficient, plus a number of the remainder
pub record Selects (us : List Fraction) (M : Model) (x : Fraction) : Type 0 where
  pub numbers : List Fraction
  pub rest : Fraction
  pub inside : Inside numbers M.terms
  pub rest_inside : rest within M.remainder
  pub sum : x =ᶠ value_with us numbers M.terms +ᶠ rest

-- x lies between the two ends of the polynomial's value, each plus that end of the remainder
pub record Encloses (us : List Fraction) (M : Model) (x : Fraction) : Type 0 where
  pub low : lower_value us M.terms +ᶠ whole M.remainder.lower ≤ᶠ x
  pub high : x ≤ᶠ upper_value us M.terms +ᶠ whole M.remainder.upper

-- x units, in marks
abbrev pub marks : ℕ → Fraction → Fraction
marks S x = x *ᶠ whole (pos S)
