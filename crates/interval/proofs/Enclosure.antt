-- What lies in an interval, in ℚ: sums, differences, meets, products, and the parts of a split.
-- Assumes nothing.
use Rattle.std.proofs.Common.{◌≡◌, ℕ, ◌<◌, ℤ, pos, negsuc, ◌*ℤ◌, neg_ℤ, ◌≤ℤ◌, inl, inr, arith}
use borrow.Author.Differences.{ints}
use Rattle.std.proofs.lemmas.Int.{clamps, by_lt_z}
use Rattle.std.specs.Int.{int_min, int_max}
use Rattle.rational.specs.Fraction.{Fraction, whole}
use Rattle.rational.proofs.Solver.{◌⊕◌, ◌⊗◌, ⊖◌, ◌⊝◌, ◌≈◌, ring2, ring4}
use Rattle.rational.proofs.Whole.{ℤ_ring}
use Rattle.rational.proofs.Rational.{ℚ, ⟦◌⟧, ◌+ℚ◌, ◌-ℚ◌, ◌*ℚ◌, negℚ, of, of_is, of_+, of_*, of_neg, *ℚ_comm, ℚ_ring, nonneg_add, nonneg_cancel, ◌≤ℚ◌, le_in, le_out}
use Rattle.rational.proofs.Certificate.{◌≼◌∵◌, cert3}
use Rattle.rational.proofs.Order.{≤ℚ_refl, ≤ℚ_trans, ≤ℚ_total, ≤ℚ_add, ≤ℚ_neg, of_mono, of_reflect, slide_low, slide_high}
use Rattle.interval.specs.declared.marks.Interval.{Interval}
use Rattle.interval.specs.Interval.{◌within◌, floor_div, ceil_div, plus, negated, meet, times}
use Rattle.interval.specs.Hull.{rounded}

-- the number lies in the interval
infix 4 ◌inside◌
pub record ◌inside◌ (x : ℚ) (I : Interval) : Type 0 where
  pub low : of I.lower ≤ℚ x
  pub high : x ≤ℚ of I.upper

-- at fractions, that is `within`
pub inside_of : {I : Interval} {v : Fraction} → v within I → ⟦ v ⟧ inside I
inside_of {I} {v} h = record { low = rw of_is (le_in (whole I.lower) v h.low); high = rw of_is (le_in v (whole I.upper) h.high) }

pub within_of : {I : Interval} {v : Fraction} → ⟦ v ⟧ inside I → v within I
within_of {I} {v} h = record { low = le_out (whole I.lower) v (rw of_is at h.low); high = le_out v (whole I.upper) (rw of_is at h.high) }

-- an interval that holds a number has its ends in order
pub inside_ordered : {I : Interval} {x : ℚ} → x inside I → I.lower ≤ℤ I.upper
inside_ordered h = of_reflect (≤ℚ_trans h.low h.high)

-- what lies in an interval lies in every wider one
pub inside_wider : {I K : Interval} {x : ℚ} → x inside I → K.lower ≤ℤ I.lower → I.upper ≤ℤ K.upper → x inside K
inside_wider h l u = record { low = ≤ℚ_trans (of_mono l) h.low; high = ≤ℚ_trans h.high (of_mono u) }

-- sums, end by end
pub inside-sum : {I K : Interval} {x y : ℚ} → x inside I → y inside K → x +ℚ y inside plus I K
inside-sum {I} {K} h k = record { low = rw (of_+ I.lower K.lower) (≤ℚ_add h.low k.low); high = rw (of_+ I.upper K.upper) (≤ℚ_add h.high k.high) }

-- ---- division rounded down and up
pub floor_le : (z : ℤ) (n : ℕ) → 0 < n → (floor_div z n *ℤ pos n) ≤ℤ z
floor_le (pos a) n h = omega (arith, ints)
floor_le (negsuc a) n h = omega (arith, ints)

pub le_ceil : (z : ℤ) (n : ℕ) → 0 < n → z ≤ℤ (ceil_div z n *ℤ pos n)
le_ceil z n h =
    let f = floor_le (neg_ℤ z) n h in
    rw (ring2 ℤ_ring (λ x n. (⊖ x) ⊗ n ≈ ⊖ (x ⊗ n)) tt (floor_div (neg_ℤ z) n) (pos n)) (omega (arith, ints))

-- ---- a fraction rounded, the other sign, and what two intervals have in common
pub hull-holds : (a : Fraction) → a within rounded a
hull-holds a =
    let e : a.num *ℤ pos 1 ≡ a.num = omega (arith, ints) in
    record { low = rw e (floor_le a.num a.den a.above); high = rw e (le_ceil a.num a.den a.above) }

pub inside-negated : {I : Interval} {x : ℚ} → x inside I → negℚ x inside negated I
inside-negated {I} h = record { low = rw (of_neg I.upper) (≤ℚ_neg h.high); high = rw (of_neg I.lower) (≤ℚ_neg h.low) }

pub inside-meet : {I K : Interval} {x : ℚ} → x inside I → x inside K → x inside meet I K
inside-meet {I} {K} {x} h k = record {
  low = by_lt_z K.lower I.lower (λ t. ≤ℚ_trans (of_mono (omega (arith, ints, clamps))) h.low) (λ t. ≤ℚ_trans (of_mono (omega (arith, ints, clamps))) k.low);
  high = by_lt_z K.upper I.upper (λ t. ≤ℚ_trans k.high (of_mono (omega (arith, ints, clamps)))) (λ t. ≤ℚ_trans h.high (of_mono (omega (arith, ints, clamps))));
}

-- ---- the product of two intervals
-- what is at most each of the four products of ends is at most the product, and what is at least each of them at least
pub product-low : (I K : Interval) (m : ℤ) {a b : ℚ} → a inside I → b inside K
    → m ≤ℤ (I.lower *ℤ K.lower) → m ≤ℤ (I.lower *ℤ K.upper) → m ≤ℤ (I.upper *ℤ K.lower) → m ≤ℤ (I.upper *ℤ K.upper) → of m ≤ℚ a *ℚ b
product-low I K m {a} {b} A B ll lh hl hh = slide_low b A.low A.high (at I.lower ll lh) (at I.upper hl hh)
  where
    at : (c : ℤ) → m ≤ℤ (c *ℤ K.lower) → m ≤ℤ (c *ℤ K.upper) → of m ≤ℚ of c *ℚ b
    at c p q = rw (*ℚ_comm (of c) b) (slide_low (of c) B.low B.high
        (rw (*ℚ_comm (of K.lower) (of c), ← of_* c K.lower) (of_mono p)) (rw (*ℚ_comm (of K.upper) (of c), ← of_* c K.upper) (of_mono q)))

pub product_high : (I K : Interval) (m : ℤ) {a b : ℚ} → a inside I → b inside K
    → (I.lower *ℤ K.lower) ≤ℤ m → (I.lower *ℤ K.upper) ≤ℤ m → (I.upper *ℤ K.lower) ≤ℤ m → (I.upper *ℤ K.upper) ≤ℤ m → a *ℚ b ≤ℚ of m
product_high I K m {a} {b} A B ll lh hl hh = slide_high b A.low A.high (at I.lower ll lh) (at I.upper hl hh)
  where
    at : (c : ℤ) → (c *ℤ K.lower) ≤ℤ m → (c *ℤ K.upper) ≤ℤ m → of c *ℚ b ≤ℚ of m
    at c p q = rw (*ℚ_comm (of c) b) (slide_high (of c) B.low B.high
        (rw (*ℚ_comm (of K.lower) (of c), ← of_* c K.lower) (of_mono p)) (rw (*ℚ_comm (of K.upper) (of c), ← of_* c K.upper) (of_mono q)))

-- q is x divided by n: q * n is x
pub low-over : {q x : ℚ} (m : ℤ) (n : ℕ) → 0 < n → q *ℚ of (pos n) ≡ x → of m ≤ℚ x → of (floor_div m n) ≤ℚ q
low-over {q} {x} m n above e h = record { diff = nonneg_cancel n above (rw step (nonneg_add h.diff (of_mono (floor_le m n above)).diff)) }
  where
    step : (q -ℚ of (floor_div m n)) *ℚ of (pos n) ≡ (x -ℚ of m) +ℚ (of m -ℚ of (floor_div m n *ℤ pos n))
    step = rw (← e, of_* (floor_div m n) (pos n)) (ring4 ℚ_ring (λ q f n m. (q ⊝ f) ⊗ n ≈ (q ⊗ n ⊝ m) ⊕ (m ⊝ f ⊗ n)) tt q (of (floor_div m n)) (of (pos n)) (of m))

pub high-over : {q x : ℚ} (m : ℤ) (n : ℕ) → 0 < n → q *ℚ of (pos n) ≡ x → x ≤ℚ of m → q ≤ℚ of (ceil_div m n)
high-over {q} {x} m n above e h = record { diff = nonneg_cancel n above (rw step (nonneg_add h.diff (of_mono (le_ceil m n above)).diff)) }
  where
    step : (of (ceil_div m n) -ℚ q) *ℚ of (pos n) ≡ (of m -ℚ x) +ℚ (of (ceil_div m n *ℤ pos n) -ℚ of m)
    step = rw (← e, of_* (ceil_div m n) (pos n)) (ring4 ℚ_ring (λ q c n m. (c ⊝ q) ⊗ n ≈ (m ⊝ q ⊗ n) ⊕ (c ⊗ n ⊝ m)) tt q (of (ceil_div m n)) (of (pos n)) (of m))

-- the least and the greatest of four
abbrev min4 : ℤ → ℤ → ℤ → ℤ → ℤ
min4 a b c d = int_min (int_min a b) (int_min c d)

abbrev max4 : ℤ → ℤ → ℤ → ℤ → ℤ
max4 a b c d = int_max (int_max a b) (int_max c d)

min4_le : (a b c d : ℤ) → (min4 a b c d ≤ℤ a) × (min4 a b c d ≤ℤ b) × (min4 a b c d ≤ℤ c) × (min4 a b c d ≤ℤ d)
min4_le a b c d = omega (arith, ints, clamps)

le_max4 : (a b c d : ℤ) → (a ≤ℤ max4 a b c d) × (b ≤ℤ max4 a b c d) × (c ≤ℤ max4 a b c d) × (d ≤ℤ max4 a b c d)
le_max4 a b c d = omega (arith, ints, clamps)

pub inside-product : (S : ℕ) → 0 < S → {I K : Interval} {a b q : ℚ} → a inside I → b inside K → q *ℚ of (pos S) ≡ a *ℚ b → q inside times S I K
unfolding times
inside-product S above {I} {K} A B e =
    let p = I.lower *ℤ K.lower in
    let q = I.lower *ℤ K.upper in
    let r = I.upper *ℤ K.lower in
    let s = I.upper *ℤ K.upper in
    let l = min4_le p q r s in
    let h = le_max4 p q r s in
    record {
      low = low-over (min4 p q r s) S above e (product-low I K (min4 p q r s) A B l.0 l.1 l.2 l.3);
      high = high-over (max4 p q r s) S above e (product_high I K (max4 p q r s) A B h.0 h.1 h.2 h.3);
    }

-- ---- a value of a sum of intervals is a sum of values of each
-- the upper end of C and the rest, where that is not below L
pub upper-rest : (C L : Interval) (v : ℚ) → C.lower ≤ℤ C.upper → v inside plus C L → of C.upper ≤ℚ v -ℚ of L.lower
    → (of C.upper inside C) × (v -ℚ of C.upper inside L) × (v ≡ of C.upper +ℚ (v -ℚ of C.upper))
upper-rest C L v c V p =
    let high : v ≤ℚ of C.upper +ℚ of L.upper = rw of_+ at V.high in (
      record { low = of_mono c; high = ≤ℚ_refl (of C.upper) },
      record { low = cert3 (λ v c l. l ≼ v ⊝ c ∵ (v ⊝ l) ⊝ c) tt v (of C.upper) (of L.lower) p.diff; high = cert3 (λ v c l. v ⊝ c ≼ l ∵ (c ⊕ l) ⊝ v) tt v (of C.upper) (of L.upper) high.diff },
      ring2 ℚ_ring (λ v c. v ≈ c ⊕ (v ⊝ c)) tt v (of C.upper),
    )

-- else the lower end of L and the rest
pub lower-rest : (C L : Interval) (v : ℚ) → L.lower ≤ℤ L.upper → v inside plus C L → v -ℚ of L.lower ≤ℚ of C.upper
    → (v -ℚ of L.lower inside C) × (of L.lower inside L) × (v ≡ (v -ℚ of L.lower) +ℚ of L.lower)
lower-rest C L v l V p =
    let low : of C.lower +ℚ of L.lower ≤ℚ v = rw of_+ at V.low in (
      record { low = cert3 (λ v c l. c ≼ v ⊝ l ∵ v ⊝ (c ⊕ l)) tt v (of C.lower) (of L.lower) low.diff; high = p },
      record { low = ≤ℚ_refl (of L.lower); high = of_mono l },
      ring2 ℚ_ring (λ v l. v ≈ (v ⊝ l) ⊕ l) tt v (of L.lower),
    )

pub split : (C L : Interval) (v : ℚ) → C.lower ≤ℤ C.upper → L.lower ≤ℤ L.upper → v inside plus C L
    → (x : ℚ) × (y : ℚ) × (x inside C) × (y inside L) × (v ≡ x +ℚ y)
split C L v c l V = elim (≤ℚ_total (of C.upper) (v -ℚ of L.lower)) [
  | inl p ↦ let s = upper-rest C L v c V p in (of C.upper, v -ℚ of C.upper, s.0, s.1, s.2)
  | inr p ↦ let s = lower-rest C L v l V p in (v -ℚ of L.lower, of L.lower, s.0, s.1, s.2)
]
