-- The joint range of a·u² + b·u for u from -1 to 1 holds every value, and lies within the plain range.
-- Assumes nothing.
use Rattle.std.proofs.Common.{◌≡◌, ℕ, zero, suc, ◌*◌, ◌<◌, ◌≤◌, Bool, true, false, cond, T, ℤ, pos, negsuc, ◌+ℤ◌, ◌-ℤ◌, ◌*ℤ◌, neg_ℤ, nat_abs, ◌≤ℤ◌, sym, refl, subst, inl, inr, mul-le-mul_left, arith, leb→le}
use lib.IntN.{pos-ne-negsuc, zero-*ℤ}
use borrow.Author.Differences.{ints}
use Rattle.std.specs.Int.{int_min, int_max}
use Rattle.std.proofs.lemmas.Bool.{leb-false}
use Rattle.std.proofs.lemmas.Int.{by_lt_z, clamps}
use Rattle.rational.proofs.Solver.{lit, ◌⊕◌, ◌⊗◌, ⊖◌, ◌⊝◌, ◌≈◌, ring1, ring2, ring4}
use Rattle.rational.proofs.Whole.{ℤ_ring}
use Rattle.rational.proofs.Rational.{ℚ, ◌+ℚ◌, ◌-ℚ◌, ◌*ℚ◌, negℚ, of, of_+, of_*, of_sub, of_neg, ℚ_ring, NonNeg, nonneg_nat, nonneg_cancel, sign, ◌≤ℚ◌}
use Rattle.rational.proofs.Certificate.{◌≼◌∵◌, cert4, signs}
use Rattle.rational.proofs.Order.{≤ℚ_trans, ≤ℚ_mul, of_mono}
use Rattle.rational.proofs.Powers.{Unital, unital_mul}
use Rattle.interval.specs.Interval.{interval, floor_div, ceil_div, plus, even_reach, full_reach}
use Rattle.interval.proofs.Rounding.{floor_greatest}
use Rattle.interval.proofs.Enclosure.{◌inside◌, le_ceil}
use Rattle.polynomial.specs.Method.{Within}
use Rattle.polynomial.specs.Quadratic.{vertex_down, vertex_up, turns, at_ends, spanned, joint}

abbrev pub quad : ℚ → ℚ → ℚ → ℚ
quad a b u = a *ℚ (u *ℚ u) +ℚ b *ℚ u

abbrev two : ℚ
two = of (pos 2)

-- a is not negative
convex : (a b : ℚ) {M u : ℚ} → NonNeg a → Unital u → a -ℚ b ≤ℚ M → a +ℚ b ≤ℚ M → quad a b u ≤ℚ M
convex a b {M} {u} n U l r = let s = unital_mul U U in elim (sign b) [
  | inl p ↦ cert4 (λ a b M u. a ⊗ (u ⊗ u) ⊕ b ⊗ u ≼ M ∵ (M ⊝ (a ⊕ b)) ⊕ (a ⊗ (lit (pos 1) ⊝ u ⊗ u) ⊕ b ⊗ (lit (pos 1) ⊝ u))) tt a b M u (search signs)
  | inr p ↦ cert4 (λ a b M u. a ⊗ (u ⊗ u) ⊕ b ⊗ u ≼ M ∵ (M ⊝ (a ⊝ b)) ⊕ (a ⊗ (lit (pos 1) ⊝ u ⊗ u) ⊕ (⊖ b) ⊗ (u ⊝ lit (negsuc 0)))) tt a b M u (search signs)
]

-- a is -p, and the vertex lies right of 1, left of -1, or between
beyond_right : (p b : ℚ) {M u : ℚ} → NonNeg p → Unital u → two *ℚ p ≤ℚ b → negℚ p +ℚ b ≤ℚ M → quad (negℚ p) b u ≤ℚ M
beyond_right p b {M} {u} n U h r =
    cert4 (λ p b M u. (⊖ p) ⊗ (u ⊗ u) ⊕ b ⊗ u ≼ M ∵ (M ⊝ (⊖ p ⊕ b)) ⊕ ((b ⊝ lit (pos 2) ⊗ p) ⊗ (lit (pos 1) ⊝ u) ⊕ p ⊗ ((lit (pos 1) ⊝ u) ⊗ (lit (pos 1) ⊝ u)))) tt p b M u (search signs)

beyond_left : (p b : ℚ) {M u : ℚ} → NonNeg p → Unital u → b ≤ℚ negℚ (two *ℚ p) → negℚ p -ℚ b ≤ℚ M → quad (negℚ p) b u ≤ℚ M
beyond_left p b {M} {u} n U h l =
    cert4 (λ p b M u. (⊖ p) ⊗ (u ⊗ u) ⊕ b ⊗ u ≼ M ∵ (M ⊝ (⊖ p ⊝ b)) ⊕ ((⊖ (lit (pos 2) ⊗ p) ⊝ b) ⊗ (u ⊝ lit (negsuc 0)) ⊕ p ⊗ ((lit (pos 1) ⊕ u) ⊗ (lit (pos 1) ⊕ u)))) tt p b M u (search signs)

vertex : (n : ℕ) (b u : ℚ) {M : ℚ} → 0 < n → b *ℚ b ≤ℚ M *ℚ (of (pos 4) *ℚ of (pos n)) → quad (negℚ (of (pos n))) b u ≤ℚ M
vertex n b u {M} above h = record {
  diff = nonneg_cancel n above (nonneg_cancel 4 (omega arith)
      (rw (ring4 ℚ_ring (λ p b M u. ((M ⊝ ((⊖ p) ⊗ (u ⊗ u) ⊕ b ⊗ u)) ⊗ p) ⊗ lit (pos 4) ≈ (M ⊗ (lit (pos 4) ⊗ p) ⊝ b ⊗ b) ⊕ (lit (pos 2) ⊗ p ⊗ u ⊝ b) ⊗ (lit (pos 2) ⊗ p ⊗ u ⊝ b)) tt (of (pos n)) b M u)
      (search signs)));
}

-- with whole a and b, and the vertex -b²/(4a) rounded up
pub quad_high : (a b M : ℤ) {u : ℚ} → Unital u → (a -ℤ b) ≤ℤ M → (a +ℤ b) ≤ℤ M
    → ((k : ℕ) → a ≡ negsuc k → nat_abs b ≤ 2 * suc k → ceil_div (b *ℤ b) (4 * suc k) ≤ℤ M) → quad (of a) (of b) u ≤ℚ of M
quad_high (pos n) b M U l r v = convex (of (pos n)) (of b) (nonneg_nat n) U (rw of_sub at (of_mono l)) (rw of_+ at (of_mono r))
quad_high (negsuc k) b M {u} U l r v = rw (of_neg (pos (suc k)))
    (by_lt_z b (pos (2 * suc k))
    (λ h. by_lt_z (neg_ℤ (pos (2 * suc k))) b
    (λ g. vertex (suc k) (of b) u (omega arith) (at (v k refl (omega (arith, ints)))))
    (λ g. beyond_left p (of b) (nonneg_nat (suc k)) U (rw (← of_* (pos 2) (pos (suc k)), ← of_neg (pos (2 * suc k))) (of_mono g)) (rw (← of_neg (pos (suc k)), ← of_sub (negsuc k) b) (of_mono l))))
    (λ h. beyond_right p (of b) (nonneg_nat (suc k)) U (rw (← of_* (pos 2) (pos (suc k))) (of_mono h)) (rw (← of_neg (pos (suc k)), ← of_+ (negsuc k) b) (of_mono r))))
  where
    p : ℚ
    p = of (pos (suc k))

    at : ceil_div (b *ℤ b) (4 * suc k) ≤ℤ M → of b *ℚ of b ≤ℚ of M *ℚ (of (pos 4) *ℚ of (pos (suc k)))
    at c = rw (← of_* b b, ← of_* (pos 4) (pos (suc k))) (≤ℚ_trans
        (rw (of_* (ceil_div (b *ℤ b) (4 * suc k)) (pos (4 * suc k))) at (of_mono (le_ceil (b *ℤ b) (4 * suc k) (omega arith))))
        (≤ℚ_mul (nonneg_nat (4 * suc k)) (of_mono c)))

-- and likewise from below
pub quad_low : (a b m : ℤ) {u : ℚ} → Unital u → m ≤ℤ (a -ℤ b) → m ≤ℤ (a +ℤ b)
    → ((k : ℕ) → neg_ℤ a ≡ negsuc k → nat_abs b ≤ 2 * suc k → ceil_div (b *ℤ b) (4 * suc k) ≤ℤ neg_ℤ m) → of m ≤ℚ quad (of a) (of b) u
quad_low a b m {u} U l r v =
    let h : quad (of (neg_ℤ a)) (of (neg_ℤ b)) u ≤ℚ of (neg_ℤ m)
    = quad_high (neg_ℤ a) (neg_ℤ b) (neg_ℤ m) U (omega (arith, ints)) (omega (arith, ints))
    (λ k e n. rw (ring1 ℤ_ring (λ b. (⊖ b) ⊗ (⊖ b) ≈ b ⊗ b) tt b) (v k e (omega (arith, ints)))) in
    cert4 (λ a b m u. m ≼ a ⊗ (u ⊗ u) ⊕ b ⊗ u ∵ ⊖ m ⊝ ((⊖ a) ⊗ (u ⊗ u) ⊕ (⊖ b) ⊗ u)) tt (of a) (of b) (of m) u (rw (of_neg a, of_neg b, of_neg m) at h).diff

-- ---- the joint range
abbrev lo_of : Bool → ℤ → ℤ → ℤ
lo_of t a b = cond t (int_min (vertex_down a b) (int_min (a -ℤ b) (a +ℤ b))) (int_min (a -ℤ b) (a +ℤ b))

abbrev hi_of : Bool → ℤ → ℤ → ℤ
hi_of t a b = cond t (int_max (vertex_up a b) (int_max (a -ℤ b) (a +ℤ b))) (int_max (a -ℤ b) (a +ℤ b))

ends : (t : Bool) (a b : ℤ) → (lo_of t a b ≤ℤ (a -ℤ b)) × (lo_of t a b ≤ℤ (a +ℤ b)) × ((a -ℤ b) ≤ℤ hi_of t a b) × ((a +ℤ b) ≤ℤ hi_of t a b)
ends true a b = omega (arith, ints, clamps)
ends false a b = omega (arith, ints, clamps)

first_min : (x y : ℤ) → int_min x y ≤ℤ x
first_min x y = omega (arith, ints, clamps)

first_max : (x y : ℤ) → x ≤ℤ int_max x y
first_max x y = omega (arith, ints, clamps)

high_vertex : (j : ℕ) (b : ℤ) (t : Bool) → turns (negsuc j) b ≡ t → nat_abs b ≤ 2 * suc j → ceil_div (b *ℤ b) (4 * suc j) ≤ℤ hi_of t (negsuc j) b
high_vertex j b true e h = first_max (vertex_up (negsuc j) b) (int_max (negsuc j -ℤ b) (negsuc j +ℤ b))
high_vertex j b false e h = absurd (omega (arith, leb-false (nat_abs b) (2 * suc j) e))

low_vertex : (j : ℕ) (b : ℤ) (t : Bool) → turns (pos (suc j)) b ≡ t → nat_abs b ≤ 2 * suc j → ceil_div (b *ℤ b) (4 * suc j) ≤ℤ neg_ℤ (lo_of t (pos (suc j)) b)
low_vertex j b true e h = let m = first_min (vertex_down (pos (suc j)) b) (int_min (pos (suc j) -ℤ b) (pos (suc j) +ℤ b)) in omega (arith, ints)
low_vertex j b false e h = absurd (omega (arith, leb-false (nat_abs b) (2 * suc j) e))

high_case : (a b : ℤ) (k : ℕ) → a ≡ negsuc k → nat_abs b ≤ 2 * suc k → ceil_div (b *ℤ b) (4 * suc k) ≤ℤ hi_of (turns a b) a b
high_case (pos n) b k e h = absurd (pos-ne-negsuc n k e)
high_case (negsuc j) b k e h = let q : k ≡ j = cc in rw q (high_vertex j b (turns (negsuc j) b) refl (omega arith))

low_case : (a b : ℤ) (k : ℕ) → neg_ℤ a ≡ negsuc k → nat_abs b ≤ 2 * suc k → ceil_div (b *ℤ b) (4 * suc k) ≤ℤ neg_ℤ (lo_of (turns a b) a b)
low_case (pos zero) b k e h = absurd (pos-ne-negsuc 0 k e)
low_case (pos (suc j)) b k e h = let q : k ≡ j = cc in rw q (low_vertex j b (turns (pos (suc j)) b) refl (omega arith))
low_case (negsuc j) b k e h = absurd (pos-ne-negsuc (suc j) k e)

joint_is : (a b : ℤ) → joint a b ≡ interval (lo_of (turns a b) a b) (hi_of (turns a b) a b)
unfolding joint
joint_is a b = go (turns a b)
  where
    go : (t : Bool) → cond t (spanned (interval (vertex_down a b) (vertex_up a b)) (at_ends a b)) (at_ends a b) ≡ interval (lo_of t a b) (hi_of t a b)
    go true = refl
    go false = refl

pub inside-joint : (a b : ℤ) {u : ℚ} → Unital u → quad (of a) (of b) u inside joint a b
inside-joint a b U =
    let h = ends (turns a b) a b in
    rw (joint_is a b) (record { low = quad_low a b (lo_of (turns a b) a b) U h.0 h.1 (low_case a b); high = quad_high a b (hi_of (turns a b) a b) U h.2 h.3 (high_case a b) })

-- ---- the joint range lies within the plain one
-- |b| ≤ 2c, so b² ≤ |b|·4c
square_below : (b : ℤ) (c : ℕ) → nat_abs b ≤ 2 * c → (b *ℤ b) ≤ℤ (pos (nat_abs b) *ℤ pos (4 * c))
square_below (pos n) c h = omega (arith, ints, mul-le-mul_left n h)
square_below (negsuc n) c h = omega (arith, ints, mul-le-mul_left (suc n) h)

square_pos : (b : ℤ) → pos 0 ≤ℤ (b *ℤ b)
square_pos (pos n) = omega (arith, ints)
square_pos (negsuc n) = omega (arith, ints)

-- the vertex lies from -|b| to |b|, on the side away from a
vertex_low : (a b : ℤ) → nat_abs b ≤ 2 * nat_abs a → neg_ℤ (pos (nat_abs b)) ≤ℤ vertex_down a b
vertex_low (pos zero) b h = omega (arith, ints)
vertex_low (pos (suc k)) b h = floor_greatest {k = neg_ℤ (pos (nat_abs b))} (neg_ℤ (b *ℤ b)) (4 * suc k) (omega arith)
    (rw (ring2 ℤ_ring (λ x n. (⊖ x) ⊗ n ≈ ⊖ (x ⊗ n)) tt (pos (nat_abs b)) (pos (4 * suc k))) (omega (arith, ints, square_below b (suc k) h)))
vertex_low (negsuc k) b h = let s = square_pos b in ≤ℤ_through (floor_greatest {k = pos 0} (b *ℤ b) (4 * suc k) (omega arith) (rw (zero-*ℤ (pos (4 * suc k))) s))
  where
    ≤ℤ_through : pos 0 ≤ℤ floor_div (b *ℤ b) (4 * suc k) → neg_ℤ (pos (nat_abs b)) ≤ℤ floor_div (b *ℤ b) (4 * suc k)
    ≤ℤ_through t = omega (arith, ints)

vertex_high : (a b : ℤ) → nat_abs b ≤ 2 * nat_abs a → vertex_up a b ≤ℤ pos (nat_abs b)
vertex_high (pos zero) b h = omega (arith, ints)
vertex_high (pos (suc k)) b h =
    let e : neg_ℤ (neg_ℤ (b *ℤ b)) ≡ b *ℤ b = omega (arith, ints) in
    let f : pos 0 ≤ℤ floor_div (neg_ℤ (neg_ℤ (b *ℤ b))) (4 * suc k) = rw e (floor_greatest {k = pos 0} (b *ℤ b) (4 * suc k) (omega arith) (rw (zero-*ℤ (pos (4 * suc k))) (square_pos b))) in
    omega (arith, ints)
vertex_high (negsuc k) b h =
    let f = vertex_low (pos (suc k)) b h in omega (arith, ints)

pub joint_narrows : (a b : ℤ) → Within (joint a b) (plus (even_reach (interval a a)) (full_reach (interval b b)))
joint_narrows a b = let h = go (turns a b) refl in rw (joint_is a b) (record { low = h.0; high = h.1 })
  where
    go : (t : Bool) → turns a b ≡ t → ((int_min (pos 0) a +ℤ neg_ℤ (int_max (neg_ℤ b) b)) ≤ℤ lo_of t a b) × (hi_of t a b ≤ℤ (int_max (pos 0) a +ℤ int_max (neg_ℤ b) b))
    go true e =
        let h = leb→le (nat_abs b) (2 * nat_abs a) (subst (λ (t : Bool). T t) (sym e) tt) in
        let l = vertex_low a b h in
        let m = vertex_high a b h in
        omega (arith, ints, clamps)
    go false e = omega (arith, ints, clamps)
