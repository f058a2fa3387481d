-- What a kind of coefficient means. Assumes nothing.
use Rattle.std.specs.Prelude.{◌≡◌, ℕ, ◌^◌, ◌≤◌, ◌+ℤ◌}
use Rattle.interval.specs.declared.marks.Interval.{Interval}
use Rattle.interval.specs.Interval.{Sized, Fits}

-- a power of two from 1 to 65,536
abbrev pub IsScale : ℕ → Type 0
IsScale S = (n : ℕ) × (n ≤ 16) × (S ≡ 2 ^ n)

-- twice the limit, which bounds a leftover
abbrev pub twice_limit : ℕ
twice_limit = 4_294_967_294

-- a coefficient that fits and a leftover, whose ends add up to those of i
pub record Splits (i : Interval) (parts : Interval × Interval) : Type 0 where
  pub lower : parts.0.lower +ℤ parts.1.lower ≡ i.lower
  pub upper : parts.0.upper +ℤ parts.1.upper ≡ i.upper
  pub coefficient : Fits parts.0
  pub leftover : Sized twice_limit parts.1

-- a scale, and a split of every interval that fits
pub record KindMeaning : Type 0 where
  pub scale : ℕ
  pub split : Interval → Interval × Interval
  pub scales : IsScale scale
  pub splits : (i : Interval) → Fits i → Splits i (split i)
