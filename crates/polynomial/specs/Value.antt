-- A polynomial's value at unit coordinates: an interval whose ends are fractions. Assumes nothing.
use Rattle.std.specs.Prelude.{List, [], ◌∷◌, pos, negsuc}
use Rattle.rational.specs.Fraction.{Fraction, whole, powᶠ, ◌+ᶠ◌, ◌*ᶠ◌, minᶠ, maxᶠ}
use Rattle.interval.specs.Interval.{◌within◌, interval}
use Rattle.polynomial.specs.declared.term.Term.{Term}
use Rattle.table.specs.Monomial.{Monomial}

-- the monomial of the coordinates, as far as both go
abbrev pub monomial_value : List Fraction → Monomial → Fraction
monomial_value us [] = whole (pos 1)
monomial_value [] (e ∷ m) = whole (pos 1)
monomial_value (u ∷ us) (e ∷ m) = powᶠ u e *ᶠ monomial_value us m

-- a term's two ends, each times the monomial
abbrev pub lower_times : List Fraction → Term → Fraction
lower_times us t = whole t.coefficient.lower *ᶠ monomial_value us t.monomial

abbrev pub upper_times : List Fraction → Term → Fraction
upper_times us t = whole t.coefficient.upper *ᶠ monomial_value us t.monomial

-- the lesser of them added up over the terms, and the greater
unfoldable pub lower_value : List Fraction → List Term → Fraction
lower_value us [] = whole (pos 0)
lower_value us (t ∷ ts) = minᶠ (lower_times us t) (upper_times us t) +ᶠ lower_value us ts

unfoldable pub upper_value : List Fraction → List Term → Fraction
upper_value us [] = whole (pos 0)
upper_value us (t ∷ ts) = maxᶠ (lower_times us t) (upper_times us t) +ᶠ upper_value us ts

-- each coordinate lies from -1 to 1
abbrev pub Units : List Fraction → Type 0
Units [] = Unit {0}
Units (u ∷ us) = (u within interval (negsuc 0) (pos 1)) × Units us

-- one number in each coefficient
abbrev pub Inside : List Fraction → List Term → Type 0
Inside [] [] = Unit {0}
Inside [] (t ∷ ts) = ⊥
Inside (c ∷ cs) [] = ⊥
Inside (c ∷ cs) (t ∷ ts) = (c within t.coefficient) × Inside cs ts

-- the value of the polynomial with these numbers for its coefficients
abbrev pub value_with : List Fraction → List Fraction → List Term → Fraction
value_with us [] ts = whole (pos 0)
value_with us (c ∷ cs) [] = whole (pos 0)
value_with us (c ∷ cs) (t ∷ ts) = c *ᶠ monomial_value us t.monomial +ᶠ value_with us cs ts
