-- The vertex of a·u² + b·u by the sign of a. Assumes nothing.
use Rattle.std.proofs.Common.{◌≡◌, ℕ, zero, suc, ◌*◌, ℤ, pos, negsuc, ◌*ℤ◌, neg_ℤ, ◌<ℤ◌, refl, ap, ap₂, arith}
use Rattle.std.proofs.lemmas.Int.{ints}
use Rattle.std.specs.Int.{int_div_euclid}
use Rattle.interval.specs.declared.marks.Interval.{Interval}
use Rattle.interval.specs.Interval.{interval, floor_div, ceil_div}
use Rattle.polynomial.specs.Quadratic.{vertex_down, vertex_up}

-- z divided by n, rounded down and rounded up
abbrev outward : ℤ → ℤ → Interval
outward z n = interval (int_div_euclid z n) (neg_ℤ (int_div_euclid (neg_ℤ z) n))

div_euclid_floor : (z : ℤ) (n : ℕ) → int_div_euclid z (pos n) ≡ floor_div z n
div_euclid_floor (pos a) n = refl
div_euclid_floor (negsuc a) n = refl

outward_is : (z : ℤ) (n : ℕ) → outward z (pos n) ≡ interval (floor_div z n) (ceil_div z n)
outward_is z n = ap₂ interval (div_euclid_floor z n) (ap neg_ℤ (div_euclid_floor (neg_ℤ z) n))

pub turns_below : (a b : ℤ) → pos 0 <ℤ a → interval (int_div_euclid (neg_ℤ (b *ℤ b)) (pos 4 *ℤ a)) (neg_ℤ (int_div_euclid (neg_ℤ (neg_ℤ (b *ℤ b))) (pos 4 *ℤ a))) ≡ interval (vertex_down a b) (vertex_up a b)
turns_below (pos zero) b h = absurd (omega (arith, ints))
turns_below (pos (suc k)) b h = outward_is (neg_ℤ (b *ℤ b)) (4 * suc k)
turns_below (negsuc k) b h = absurd (omega (arith, ints))

pub turns-above : (a b : ℤ) → a <ℤ pos 0 → interval (int_div_euclid (b *ℤ b) (negsuc 3 *ℤ a)) (neg_ℤ (int_div_euclid (neg_ℤ (b *ℤ b)) (negsuc 3 *ℤ a))) ≡ interval (vertex_down a b) (vertex_up a b)
turns-above (pos k) b h = absurd (omega (arith, ints))
turns-above (negsuc k) b h = outward_is (b *ℤ b) (4 * suc k)
