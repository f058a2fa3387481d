-- How large the ends of a result are, from the sizes of its operands. Assumes nothing.
use Rattle.std.proofs.Common.{◌≡◌, ℕ, ◌+◌, ◌*◌, ◌<◌, ◌≤◌, true, ℤ, pos, negsuc, ◌*ℤ◌, neg_ℤ, ◌≤ℤ◌, sym, subst, mul-le-mul, div-le_self, arith, pow_pos}
use borrow.Author.Differences.{up, down, product_is, ints}
use Rattle.std.proofs.lemmas.Int.{clamps}
use Rattle.std.specs.Int.{int_min, int_max}
use Rattle.interval.specs.declared.marks.Interval.{Interval}
use Rattle.interval.specs.Interval.{Bounded, Sized, Fits, fits, interval, zero_interval, floor_div, ceil_div, least, greatest, plus, minus, negated, times, even_reach, full_reach}
use Rattle.interval.specs.Kind.{IsScale}
use Rattle.interval.proofs.Rounding.{floor_le_ceil}

pub scale-above : {S : ℕ} → IsScale S → 0 < S
scale-above s = subst (λ (k : ℕ). 0 < k) (sym s.2) (pow_pos s.0)

-- ---- one number
size : {n : ℕ} (a : ℤ) → Bounded n a → up a + down a ≤ n
size (pos a) h = omega (arith, ints)
size (negsuc a) h = omega (arith, ints)

pub bounded_product : {m n : ℕ} {a b : ℤ} → Bounded m a → Bounded n b → Bounded (m * n) (a *ℤ b)
bounded_product {m} {n} {a} {b} h k =
    let p = mul-le-mul (size a h) (size b k) in
    record { low = omega (arith, ints, product_is a b); high = omega (arith, ints, product_is a b) }

pub bounded_floor : {n : ℕ} (z : ℤ) (S : ℕ) → Bounded n z → Bounded n (floor_div z S)
bounded_floor (pos a) S h = let d = div-le_self a S in record { low = omega (arith, ints); high = omega (arith, ints) }
bounded_floor (negsuc a) S h = let d = div-le_self a S in record { low = omega (arith, ints); high = omega (arith, ints) }

bounded_neg : {n : ℕ} {z : ℤ} → Bounded n z → Bounded n (neg_ℤ z)
bounded_neg h = record { low = omega (arith, ints); high = omega (arith, ints) }

pub bounded_ceil : {n : ℕ} (z : ℤ) (S : ℕ) → Bounded n z → Bounded n (ceil_div z S)
bounded_ceil z S h = bounded_neg (bounded_floor (neg_ℤ z) S (bounded_neg h))

bounded_min : {n : ℕ} {a b : ℤ} → Bounded n a → Bounded n b → Bounded n (int_min a b)
bounded_min h k = record { low = omega (arith, ints, clamps); high = omega (arith, ints, clamps) }

bounded_max : {n : ℕ} {a b : ℤ} → Bounded n a → Bounded n b → Bounded n (int_max a b)
bounded_max h k = record { low = omega (arith, ints, clamps); high = omega (arith, ints, clamps) }

-- ---- the two ends
pub lower_bounded : {n : ℕ} {i : Interval} → Sized n i → Bounded n i.lower
lower_bounded s = record { low = s.low; high = omega (arith, ints) }

pub upper_bounded : {n : ℕ} {i : Interval} → Sized n i → Bounded n i.upper
upper_bounded s = record { low = omega (arith, ints); high = s.high }

pub sized_zero : (n : ℕ) → Sized n zero_interval
sized_zero n = record { low = omega (arith, ints); order = omega (arith, ints); high = omega (arith, ints) }

pub sized-point : {n : ℕ} {a : ℤ} → Bounded n a → Sized n (interval a a)
sized-point b = record { low = b.low; order = omega (arith, ints); high = b.high }

pub sized_weaken : {m n : ℕ} {i : Interval} → m ≤ n → Sized m i → Sized n i
sized_weaken h s = record { low = omega (arith, ints); order = s.order; high = omega (arith, ints) }

-- the test tells which intervals fit
pub fits-sized : {i : Interval} → i.lower ≤ℤ i.upper → fits i ≡ true → Fits i
fits-sized {i} o e = record { low = grind (arith, ints); order = o; high = grind (arith, ints) }

pub sized-fits : {i : Interval} → Fits i → fits i ≡ true
sized-fits {i} s = grind (arith, ints)

-- ---- each operation
pub sized-plus : {m n : ℕ} {i j : Interval} → Sized m i → Sized n j → Sized (m + n) (plus i j)
sized-plus s t = record { low = omega (arith, ints); order = omega (arith, ints); high = omega (arith, ints) }

pub sized-minus : {m n : ℕ} {i j : Interval} → Sized m i → Sized n j → Sized (m + n) (minus i j)
sized-minus s t = record { low = omega (arith, ints); order = omega (arith, ints); high = omega (arith, ints) }

pub sized-negated : {n : ℕ} {i : Interval} → Sized n i → Sized n (negated i)
sized-negated s = record { low = omega (arith, ints); order = omega (arith, ints); high = omega (arith, ints) }

pub sized-even : {n : ℕ} {i : Interval} → Sized n i → Sized n (even_reach i)
sized-even s = record { low = omega (arith, ints, clamps); order = omega (arith, ints, clamps); high = omega (arith, ints, clamps) }

pub sized-full : {n : ℕ} {i : Interval} → Sized n i → Sized n (full_reach i)
sized-full s = record { low = omega (arith, ints, clamps); order = omega (arith, ints, clamps); high = omega (arith, ints, clamps) }

least_le_greatest : (a b c d : ℤ) → int_min (int_min a b) (int_min c d) ≤ℤ int_max (int_max a b) (int_max c d)
least_le_greatest a b c d = omega (arith, ints, clamps)

pub sized-times : {m n : ℕ} (S : ℕ) → 0 < S → {i j : Interval} → Sized m i → Sized n j → Sized (m * n) (times S i j)
unfolding times
sized-times {m} {n} S above {i} {j} s t =
    let ll = bounded_product (lower_bounded s) (lower_bounded t) in
    let lu = bounded_product (lower_bounded s) (upper_bounded t) in
    let ul = bounded_product (upper_bounded s) (lower_bounded t) in
    let uu = bounded_product (upper_bounded s) (upper_bounded t) in
    record {
      low = (bounded_floor (least i j) S (bounded_min (bounded_min ll lu) (bounded_min ul uu))).low;
      order = floor_le_ceil (least i j) (greatest i j) S above (least_le_greatest (i.lower *ℤ j.lower) (i.lower *ℤ j.upper) (i.upper *ℤ j.lower) (i.upper *ℤ j.upper));
      high = (bounded_ceil (greatest i j) S (bounded_max (bounded_max ll lu) (bounded_max ul uu))).high;
    }
