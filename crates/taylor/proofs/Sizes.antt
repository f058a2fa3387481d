-- The ends of products are in order, and 1 in marks fits. Assumes nothing.
use Rattle.std.proofs.Common.{ℕ, ◌<◌, ◌≤◌, pos, ◌≤ℤ◌, arith, pow_mono}
use Rattle.std.proofs.lemmas.Int.{ints, clamps}
use Rattle.interval.specs.declared.marks.Interval.{Interval}
use Rattle.interval.specs.Interval.{Fits, interval, least, greatest, times}
use Rattle.interval.specs.Kind.{KindMeaning}
use Rattle.interval.proofs.Rounding.{floor_le_ceil}
use Rattle.interval.proofs.Sizes.{scale-above as above}

-- the least of the four products is not above the greatest
pub times-order : (S : ℕ) → 0 < S → (i j : Interval) → (times S i j).lower ≤ℤ (times S i j).upper
unfolding times
times-order S above i j = floor_le_ceil (least i j) (greatest i j) S above (omega (arith, ints, clamps))

-- ---- the scale
pub scale-above : (k : KindMeaning) → 0 < k.scale
scale-above k = above k.scales

pub one-fits : (k : KindMeaning) → Fits (interval (pos k.scale) (pos k.scale))
one-fits k =
    let s = k.scales in
    let h : k.scale ≤ 65536 = rw s.2 (pow_mono s.1) in
    record { low = omega (arith, ints); order = omega (arith, ints); high = omega (arith, ints) }
