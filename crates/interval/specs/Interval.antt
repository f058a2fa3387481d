-- Intervals of marks and their arithmetic, rounded outward. Assumes nothing.
use Rattle.std.specs.Prelude.{ℕ, ◌-◌, ◌^◌, Bool, ◌&&◌, ℤ, pos, ◌+ℤ◌, ◌-ℤ◌, ◌*ℤ◌, neg_ℤ, ◌≤ℤ◌, ◌==◌, int_le, unsigned_abs}
use Rattle.std.specs.Int.Signed.{shr_z}
use Rattle.std.specs.Int.{int_min, int_max}
use Rattle.rational.specs.Fraction.{Fraction, whole, ◌≤ᶠ◌}
use Rattle.interval.specs.declared.marks.Interval.{Interval}

-- the greatest number of marks that an end may have
abbrev pub limit : ℕ
limit = 2_147_483_647

abbrev pub interval : ℤ → ℤ → Interval
interval a b = record { lower = a; upper = b }

abbrev pub zero_interval : Interval
zero_interval = interval (pos 0) (pos 0)

-- the number lies from -n to n
pub record Bounded (n : ℕ) (z : ℤ) : Type 0 where
  pub low : neg_ℤ (pos n) ≤ℤ z
  pub high : z ≤ℤ pos n

-- both ends lie from -n to n, the lower not above the upper
pub record Sized (n : ℕ) (i : Interval) : Type 0 where
  pub low : neg_ℤ (pos n) ≤ℤ i.lower
  pub order : i.lower ≤ℤ i.upper
  pub high : i.upper ≤ℤ pos n

-- both ends lie from -limit to limit
abbrev pub Fits : Interval → Type 0
Fits i = Sized limit i

-- small enough that a sum or a difference of two is a 64-bit number
abbrev pub Summable : Interval → Type 0
Summable i = Sized (2 ^ 62 - 1) i

-- the test of both ends, for what is an interval
abbrev pub fits : Interval → Bool
fits i = int_le (neg_ℤ (pos limit)) i.lower && int_le i.upper (pos limit)

-- both ends are 0
abbrev pub is_zero : Interval → Bool
is_zero i = unsigned_abs i.lower == 0 && unsigned_abs i.upper == 0

-- z divided by n, rounded down, and rounded up
abbrev pub floor_div : ℤ → ℕ → ℤ
floor_div z n = shr_z z n

abbrev pub ceil_div : ℤ → ℕ → ℤ
ceil_div z n = neg_ℤ (floor_div (neg_ℤ z) n)

-- the sum, end by end
abbrev pub plus : Interval → Interval → Interval
plus i j = interval (i.lower +ℤ j.lower) (i.upper +ℤ j.upper)

-- the upper end from the lower, and the lower from the upper
abbrev pub minus : Interval → Interval → Interval
minus i j = interval (i.lower -ℤ j.upper) (i.upper -ℤ j.lower)

-- the same marks with the other sign
abbrev pub negated : Interval → Interval
negated i = interval (neg_ℤ i.upper) (neg_ℤ i.lower)

-- the larger lower end and the smaller upper end
abbrev pub meet : Interval → Interval → Interval
meet i j = interval (int_max i.lower j.lower) (int_min i.upper j.upper)

-- the least and the greatest of the four products of ends
abbrev pub least : Interval → Interval → ℤ
least i j = int_min (int_min (i.lower *ℤ j.lower) (i.lower *ℤ j.upper)) (int_min (i.upper *ℤ j.lower) (i.upper *ℤ j.upper))

abbrev pub greatest : Interval → Interval → ℤ
greatest i j = int_max (int_max (i.lower *ℤ j.lower) (i.lower *ℤ j.upper)) (int_max (i.upper *ℤ j.lower) (i.upper *ℤ j.upper))

-- the product at a scale, rounded outward
unfoldable pub times : ℕ → Interval → Interval → Interval
times S i j = interval (floor_div (least i j) S) (ceil_div (greatest i j) S)

-- the greater absolute end
abbrev pub magnitude : Interval → ℤ
magnitude i = int_max (neg_ℤ i.lower) i.upper

-- times what lies from 0 to 1, and times what lies from -1 to 1
abbrev pub even_reach : Interval → Interval
even_reach i = interval (int_min (pos 0) i.lower) (int_max (pos 0) i.upper)

abbrev pub full_reach : Interval → Interval
full_reach i = interval (neg_ℤ (magnitude i)) (magnitude i)

-- the fraction lies in the interval
infix 4 ◌within◌
pub record ◌within◌ (v : Fraction) (i : Interval) : Type 0 where
  pub low : whole i.lower ≤ᶠ v
  pub high : v ≤ᶠ whole i.upper
