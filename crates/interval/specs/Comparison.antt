-- How two finite binary64 values compare as numbers. Assumes nothing.
use Rattle.std.specs.Prelude.{cond, ℤ, pos, ◌*ℤ◌, Some, None, Option, int_lt, Float}
use Rattle.std.specs.declared.cmp.Ordering.TheVariants.{Less, Equal, Greater}
use Rattle.std.specs.declared.cmp.Ordering.{Ordering}
use Rattle.rational.specs.Fraction.{Fraction}
use Rattle.interval.specs.Hull.{value}
use Rattle.interval.specs.Variable.{both_finite}

-- the order of two whole numbers
abbrev pub order_of : ℤ → ℤ → Ordering
order_of a b = cond (int_lt a b) Less (cond (int_lt b a) Greater Equal)

-- the order of two fractions, by cross products
abbrev pub fraction_order : Fraction → Fraction → Ordering
fraction_order a b = order_of (a.num *ℤ pos b.den) (b.num *ℤ pos a.den)

-- the order of the exact values; none where one is not finite
abbrev pub compared : Float → Float → Option Ordering
compared x y = cond (both_finite x y) (Some (fraction_order (value x) (value y))) None
