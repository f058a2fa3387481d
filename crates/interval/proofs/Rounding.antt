-- Division rounded down gives the greatest whole number that is not above the quotient, and rounded up the least that is
-- not below. Assumes nothing.
use Rattle.std.proofs.Common.{◌≡◌, ℕ, ◌<◌, ℤ, pos, negsuc, ◌+ℤ◌, ◌*ℤ◌, neg_ℤ, ◌≤ℤ◌, ◌<ℤ◌, arith}
use borrow.Author.Differences.{ints}
use Rattle.std.proofs.lemmas.Int.{by_lt_z}
use Rattle.rational.proofs.Solver.{lit, ◌⊕◌, ◌⊗◌, ⊖◌, ◌≈◌, ring2, ring3}
use Rattle.rational.proofs.Whole.{ℤ_ring, scale_≤}
use Rattle.interval.specs.Interval.{floor_div, ceil_div}
use Rattle.interval.proofs.Enclosure.{floor_le, le_ceil}

-- a factor above 0 is cancelled
pub cancel_≤ : {a b : ℤ} (n : ℕ) → 0 < n → (a *ℤ pos n) ≤ℤ (b *ℤ pos n) → a ≤ℤ b
cancel_≤ {a} {b} n above h = by_lt_z b a (λ (t : b <ℤ a). absurd (beyond t)) (λ t. t)
  where
    beyond : b <ℤ a → ⊥
    beyond t =
        let s : ((b +ℤ pos 1) *ℤ pos n) ≤ℤ (a *ℤ pos n) = scale_≤ n (omega (arith, ints)) in
        let e = ring2 ℤ_ring (λ b n. (b ⊕ lit (pos 1)) ⊗ n ≈ b ⊗ n ⊕ n) tt b (pos n) in
        omega (arith, ints)

-- ---- one number and one divisor
pub floor_next : (z : ℤ) (n : ℕ) → 0 < n → z <ℤ (floor_div z n *ℤ pos n +ℤ pos n)
floor_next (pos a) n h = omega (arith, ints)
floor_next (negsuc a) n h = omega (arith, ints)

pub floor_greatest : {k : ℤ} (z : ℤ) (n : ℕ) → 0 < n → (k *ℤ pos n) ≤ℤ z → k ≤ℤ floor_div z n
floor_greatest {k} z n above h = by_lt_z (floor_div z n) k (λ (t : floor_div z n <ℤ k). absurd (beyond t)) (λ t. t)
  where
    beyond : floor_div z n <ℤ k → ⊥
    beyond t =
        let s : ((floor_div z n +ℤ pos 1) *ℤ pos n) ≤ℤ (k *ℤ pos n) = scale_≤ n (omega (arith, ints)) in
        let e = ring2 ℤ_ring (λ f n. (f ⊕ lit (pos 1)) ⊗ n ≈ f ⊗ n ⊕ n) tt (floor_div z n) (pos n) in
        let b = floor_next z n above in
        omega (arith, ints)

pub ceil_least : {k : ℤ} (z : ℤ) (n : ℕ) → 0 < n → z ≤ℤ (k *ℤ pos n) → ceil_div z n ≤ℤ k
ceil_least {k} z n above h =
    let e = ring2 ℤ_ring (λ k n. (⊖ k) ⊗ n ≈ ⊖ (k ⊗ n)) tt k (pos n) in
    let f : neg_ℤ k ≤ℤ floor_div (neg_ℤ z) n = floor_greatest (neg_ℤ z) n above (omega (arith, ints)) in
    omega (arith, ints)

-- ---- two fractions in their order
pub floor_mono : (x : ℤ) (m : ℕ) (y : ℤ) (n : ℕ) → 0 < m → 0 < n → (x *ℤ pos n) ≤ℤ (y *ℤ pos m) → floor_div x m ≤ℤ floor_div y n
floor_mono x m y n M N h =
    floor_greatest y n N (cancel_≤ m M
    (let s = scale_≤ n (floor_le x m M) in
    let e = ring3 ℤ_ring (λ f m n. f ⊗ m ⊗ n ≈ f ⊗ n ⊗ m) tt (floor_div x m) (pos m) (pos n) in
    omega (arith, ints)))

pub ceil_mono : (x : ℤ) (m : ℕ) (y : ℤ) (n : ℕ) → 0 < m → 0 < n → (x *ℤ pos n) ≤ℤ (y *ℤ pos m) → ceil_div x m ≤ℤ ceil_div y n
ceil_mono x m y n M N h =
    ceil_least x m M (cancel_≤ n N
    (let s = scale_≤ m (le_ceil y n N) in
    let e = ring3 ℤ_ring (λ c m n. c ⊗ n ⊗ m ≈ c ⊗ m ⊗ n) tt (ceil_div y n) (pos m) (pos n) in
    omega (arith, ints)))

-- equal fractions
pub floor_same : (x : ℤ) (m : ℕ) (y : ℤ) (n : ℕ) → 0 < m → 0 < n → x *ℤ pos n ≡ y *ℤ pos m → floor_div x m ≡ floor_div y n
floor_same x m y n M N e =
    let p = floor_mono x m y n M N (omega (arith, ints)) in
    let q = floor_mono y n x m N M (omega (arith, ints)) in
    omega (arith, ints)

pub ceil_same : (x : ℤ) (m : ℕ) (y : ℤ) (n : ℕ) → 0 < m → 0 < n → x *ℤ pos n ≡ y *ℤ pos m → ceil_div x m ≡ ceil_div y n
ceil_same x m y n M N e =
    let p = ceil_mono x m y n M N (omega (arith, ints)) in
    let q = ceil_mono y n x m N M (omega (arith, ints)) in
    omega (arith, ints)

pub floor_le_ceil : (x y : ℤ) (n : ℕ) → 0 < n → x ≤ℤ y → floor_div x n ≤ℤ ceil_div y n
floor_le_ceil x y n above h =
    cancel_≤ n above (let f = floor_le x n above in let c = le_ceil y n above in omega (arith, ints))
