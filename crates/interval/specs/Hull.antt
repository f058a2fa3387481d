-- The value of a binary64 as a fraction, and its hull in marks. Assumes nothing.
use Rattle.std.specs.Prelude.{ℕ, ◌*◌, Bool, true, false, cond, ◌&&◌, ℤ, pos, neg_ℤ, Some, None, Option, Float}
use Rattle.std.specs.Float.Ieee.{up, down}
use Rattle.std.specs.Float.Ieee.Fits.{down_pos}
use Rattle.std.specs.Float.{float_is_finite, nan, inf, fin}
use Rattle.rational.specs.Fraction.{Fraction, whole, ◌*ᶠ◌}
use Rattle.interval.specs.declared.marks.Interval.{Interval}
use Rattle.interval.specs.Interval.{interval, fits, floor_div, ceil_div}

-- n, or -n
abbrev pub signed : Bool → ℕ → ℤ
signed false n = pos n
signed true n = neg_ℤ (pos n)

-- the exact value; 0 for what is not finite
abbrev pub value : Float → Fraction
value nan = whole (pos 0)
value (inf s) = whole (pos 0)
value (fin s m e) = record { num = signed s (m * up e); den = down e; above = down_pos e }

-- a fraction rounded down and up
abbrev pub rounded : Fraction → Interval
rounded a = interval (floor_div a.num a.den) (ceil_div a.num a.den)

-- the exact value in marks
abbrev pub in_marks : ℕ → Float → Fraction
in_marks S x = value x *ᶠ whole (pos S)

-- the value in marks, rounded down and up
unfoldable pub hull : ℕ → Float → Interval
hull S x = rounded (in_marks S x)

-- the hull of a finite value, where it fits
abbrev pub hulled : ℕ → Float → Option Interval
hulled S x = cond (float_is_finite x && fits (hull S x)) (Some (hull S x)) None
