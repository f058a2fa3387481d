-- A binary64 that is rounded down or up and cast to a whole number gives the floor or the ceiling of its value.
-- Assumes nothing.
use Rattle.std.proofs.Common.{◌≡◌, ℕ, zero, suc, ◌+◌, ◌-◌, ◌*◌, ◌/◌, ◌^◌, ◌<◌, ◌≤◌, min, Bool, true, false, cond, ℤ, pos, ◌*ℤ◌, neg_ℤ, sym, refl, ap, ◌∙◌, mul-le-mul_right, div-lt_iff_lt-mul, mul-one, le_of_mul-le-mul_right, mul-div_cancel, arith}
use native.Mathlib.Nat.{div-eq_of_lt, zero-div, add-div_right}
use lib.Ieee.{Float, nan, inf, fin, binary64, up, down, round, to_signed}
use lib.Ieee.Fits.{down_pos}
use lib.Ieee.Exact.{HasValue}
use lib.Ieee.Back.{round_whole}
use Rattle.std.specs.Float.{ratio_ceil, round_with, floor, ceil}
use Rattle.interval.specs.Interval.{floor_div, ceil_div}
use Rattle.interval.specs.Hull.{signed}
use Rattle.interval.proofs.Rounding.{floor_same, ceil_same}

-- ---- floors and ceilings of n / d and of -n / d, by quotients of natural numbers
neg_neg : (n : ℕ) → neg_ℤ (neg_ℤ (pos n)) ≡ pos n
neg_neg zero = refl
neg_neg (suc n) = refl

floor_negative : (n d : ℕ) → 0 < d → neg_ℤ (pos (ratio_ceil n d)) ≡ floor_div (neg_ℤ (pos n)) d
floor_negative zero d h = ap (λ q. neg_ℤ (pos q)) (div-eq_of_lt {n = 0 + d - 1} {m = d} (omega arith)) ∙ ap pos (sym (zero-div d))
floor_negative (suc n) d h =
    let e : suc n + d - 1 ≡ n + d = omega arith in
    let f : ratio_ceil (suc n) d ≡ suc (n / d) = ap (λ k. k / d) e ∙ (omega (arith, add-div_right n h)) in
    ap (λ q. neg_ℤ (pos q)) f

ceil_negative : (n d : ℕ) → neg_ℤ (pos (n / d)) ≡ ceil_div (neg_ℤ (pos n)) d
ceil_negative n d = ap (λ z. neg_ℤ (floor_div z d)) (sym (neg_neg n))

ceil_positive : (n d : ℕ) → 0 < d → pos (ratio_ceil n d) ≡ ceil_div (pos n) d
ceil_positive n d h = sym (neg_neg (ratio_ceil n d)) ∙ ap neg_ℤ (floor_negative n d h)

pub signed-times : (s : Bool) (n d : ℕ) → signed s n *ℤ pos d ≡ signed s (n * d)
signed-times false n d = refl
signed-times true zero d = let z : 0 * d ≡ 0 = omega arith in ap pos z ∙ sym (ap (signed true) z)
signed-times true (suc n) d = refl

-- ---- a whole number that is cast
cast : (z : Float) (s : Bool) (q : ℕ) → HasValue z s q 1 → q ≤ 2 ^ 53 → to_signed 63 z ≡ signed s q
unfolding to_signed
cast nan s q v h = absurd v
cast (inf t) s q v h = absurd v
cast (fin t m e) s q v h =
    let d : m * up e / down e ≡ q = ap (λ (x : ℕ). x / down e) (sym (mul-one (m * up e)) ∙ v.1) ∙ mul-div_cancel q (down_pos e) in
    ap (λ (x : ℕ). cond t (neg_ℤ (pos (min x (2 ^ 63)))) (pos (min x (2 ^ 63 - 1)))) d ∙ go t ∙ ap (λ (b : Bool). signed b q) v.0
  where
    go : (t : Bool) → cond t (neg_ℤ (pos (min q (2 ^ 63)))) (pos (min q (2 ^ 63 - 1))) ≡ signed t q
    go true = ap (λ (x : ℕ). neg_ℤ (pos x)) (omega arith)
    go false = ap pos (omega arith)

whole_cast : (s : Bool) (q : ℕ) → q ≤ 2 ^ 53 → to_signed 63 (round binary64 s q 1) ≡ signed s q
whole_cast s q h = cast (round binary64 s q 1) s q (round_whole binary64 s q h) h

-- ---- a value of at most 2 ^ 48
small : (m : ℕ) (e : ℤ) (n d : ℕ) → 0 < d → n ≤ 2 ^ 48 * d → m * up e * d ≡ n * down e → (m * up e / down e ≤ 2 ^ 53) × (ratio_ceil (m * up e) (down e) ≤ 2 ^ 53)
small m e n d D h v =
    let p = mul-le-mul_right (down e) h in
    let b : m * up e ≤ 2 ^ 48 * down e = le_of_mul-le-mul_right {k = d} (omega arith) D in
    let E = down_pos e in
    let x : m * up e / down e < 2 ^ 48 + 1 = (div-lt_iff_lt-mul E).1 (omega arith) in
    let y : ratio_ceil (m * up e) (down e) < 2 ^ 48 + 2 = (div-lt_iff_lt-mul E).1 (omega arith) in
    (omega arith, omega arith)

-- the same value by another fraction
same : (s : Bool) (a b n d : ℕ) → a * d ≡ n * b → signed s a *ℤ pos d ≡ signed s n *ℤ pos b
same s a b n d e = signed-times s a d ∙ ap (signed s) e ∙ sym (signed-times s n b)

pub low_is : (y : Float) (s : Bool) (n d : ℕ) → 0 < d → n ≤ 2 ^ 48 * d → HasValue y s n d → to_signed 63 (floor binary64 y) ≡ floor_div (signed s n) d
unfolding round_with
low_is nan s n d D h v = absurd v
low_is (inf t) s n d D h v = absurd v
low_is (fin true m e) s n d D h v =
    whole_cast true (ratio_ceil (m * up e) (down e)) (small m e n d D h v.1).1 ∙ floor_negative (m * up e) (down e) (down_pos e)
    ∙ floor_same (signed true (m * up e)) (down e) (signed true n) d (down_pos e) D (same true (m * up e) (down e) n d v.1) ∙ ap (λ b. floor_div (signed b n) d) v.0
low_is (fin false m e) s n d D h v =
    whole_cast false (m * up e / down e) (small m e n d D h v.1).0
    ∙ floor_same (signed false (m * up e)) (down e) (signed false n) d (down_pos e) D (same false (m * up e) (down e) n d v.1) ∙ ap (λ b. floor_div (signed b n) d) v.0

pub high_is : (y : Float) (s : Bool) (n d : ℕ) → 0 < d → n ≤ 2 ^ 48 * d → HasValue y s n d → to_signed 63 (ceil binary64 y) ≡ ceil_div (signed s n) d
unfolding round_with
high_is nan s n d D h v = absurd v
high_is (inf t) s n d D h v = absurd v
high_is (fin true m e) s n d D h v =
    whole_cast true (m * up e / down e) (small m e n d D h v.1).0 ∙ ceil_negative (m * up e) (down e)
    ∙ ceil_same (signed true (m * up e)) (down e) (signed true n) d (down_pos e) D (same true (m * up e) (down e) n d v.1) ∙ ap (λ b. ceil_div (signed b n) d) v.0
high_is (fin false m e) s n d D h v =
    whole_cast false (ratio_ceil (m * up e) (down e)) (small m e n d D h v.1).1 ∙ ceil_positive (m * up e) (down e) (down_pos e)
    ∙ ceil_same (signed false (m * up e)) (down e) (signed false n) d (down_pos e) D (same false (m * up e) (down e) n d v.1) ∙ ap (λ b. ceil_div (signed b n) d) v.0
