-- A variable from the two ends that are given for it. Assumes nothing.
use Rattle.std.specs.Prelude.{ℕ, Bool, not, ◌&&◌, pos, ◌+ℤ◌, ◌-ℤ◌, ◌≤ℤ◌, Ok, Result, Float}
use Rattle.std.specs.Float.Ieee.{lt}
use Rattle.std.specs.Float.{float_is_finite}
use Rattle.interval.specs.declared.marks.Interval.{Interval}
use Rattle.interval.specs.declared.reason.Reason.{Reason}
use Rattle.interval.specs.declared.reason.Reason.TheVariants.{EndNotFinite, EndsCrossed, EndDoesNotFit}
use Rattle.interval.specs.declared.variable.Variable.{Variable}
use Rattle.interval.specs.Interval.{interval, limit, Bounded, fits, floor_div, ◌within◌}
use Rattle.interval.specs.Hull.{in_marks, hull}
use Rattle.interval.specs.Reason.{require}

-- both ends are finite
abbrev pub both_finite : Float → Float → Bool
both_finite x y = float_is_finite x && float_is_finite y

-- the lower end is not above the upper, as numbers
abbrev pub uncrossed : Float → Float → Bool
uncrossed x y = not (lt y x)

-- from the hull of the lower end to that of the upper
abbrev pub hull_ends : ℕ → Float → Float → Interval
hull_ends S x y = interval (hull S x).lower (hull S y).upper

-- the centre (a + b)/2, rounded down, and what is left up to b; the ends are kept as given
abbrev pub centred : Float → Float → Interval → Variable
centred x y i =
    let c = floor_div (i.lower +ℤ i.upper) 2 in
    record { lower = x; upper = y; centre = c; half = i.upper -ℤ c }

unfoldable pub variable : ℕ → Float → Float → Variable
variable S x y = centred x y (hull_ends S x y)

-- the variable, or the first test that its ends fail
abbrev pub variable_of : ℕ → Float → Float → Result Variable Reason
variable_of S x y =
    require (both_finite x y) EndNotFinite (require (uncrossed x y) EndsCrossed
    (require (fits (hull_ends S x y)) EndDoesNotFit (Ok (variable S x y))))

-- the marks that the variable runs over
abbrev pub span : Variable → Interval
span v = interval (v.centre -ℤ v.half) (v.centre +ℤ v.half)

-- centre and half width fit, and the span holds the given ends in marks
pub record Sound (S : ℕ) (v : Variable) : Type 0 where
  pub wide : pos 0 ≤ℤ v.half
  pub centre : Bounded limit v.centre
  pub half : Bounded limit v.half
  pub lower : in_marks S v.lower within span v
  pub upper : in_marks S v.upper within span v
