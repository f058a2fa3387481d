-- A binary64 of at most 2147483647 in size, times a power of two up to 65536, is exact. Assumes nothing.
use Rattle.std.proofs.Common.{◌≡◌, ℕ, zero, suc, ◌+◌, ◌-◌, ◌*◌, ◌%◌, ◌^◌, ◌<◌, ◌≤◌, Bool, true, false, ◌&&◌, T, eqb, ltb, leb, ℤ, pos, negsuc, sym, refl, ap, ◌∙◌, subst, true≢false, le_trans, le_of_eq, mul-le-mul_right, mul_assoc, mul_comm, mul-le-mul_left, mul-pos, lt_of_not-le, mul-one, not-le_of_lt, le_of_mul-le-mul_right, mul_left_comm, arith, eqb→eq, ltb→lt, leb→le, pow_pos, pow_mono, pow-add}
use lib.Pow.{pow-lt}
use lib.Ieee.{Float, nan, inf, fin, Format, binary32, binary64, prec, emax, low, up, down, unlike, round, mul, of_int, fits}
use lib.Ieee.Fits.{and_l, and_r, down_pos}
use lib.Ieee.Exact.{HasValue, round_exact}
use lib.Ieee.Back.{round_whole}
use lib.Ieee.Scale.{round_same}

-- ---- the value in units of the format's smallest one: 2 ^ j of them for each of the significand
within : (l a : ℕ) → 2 ^ a ≤ 2 ^ l → a < suc l
within l a h = lt_of_not-le (λ (g : suc l ≤ a). not-le_of_lt (pow-lt g) h)

joins : (l a : ℕ) → a < suc l → 2 ^ l ≡ 2 ^ (l - a) * 2 ^ a
joins l a h = ap (λ (x : ℕ). 2 ^ x) (omega arith) ∙ pow-add 2 (l - a) a

-- the two parts of `fits` that are used
middle : (f : Format) (s : Bool) (m : ℕ) (e : ℤ) → T (fits f (fin s (suc m) e)) → (suc m < 2 ^ prec f) × (down e ≤ 2 ^ low f)
unfolding fits
middle f s m e h =
    let a = eqb (suc m % 2) 1 in
    let b = ltb (suc m) (2 ^ prec f) in
    let c = leb (down e) (2 ^ low f) in
    let t : T (a && b && c) = and_l (a && b && c) (ltb (suc m * up e) (2 ^ suc (emax f) * down e)) h in
    (ltb→lt (suc m) (2 ^ prec f) (and_r a b (and_l (a && b) c t)), leb→le (down e) (2 ^ low f) (and_r (a && b) c t))

place : (f : Format) (s : Bool) (m : ℕ) (e : ℤ) → T (fits f (fin s m e)) → (j : ℕ) × (up e * 2 ^ low f ≡ 2 ^ j * down e)
unfolding fits
place f s m (pos a) h = (a + low f, sym (pow-add 2 a (low f)) ∙ sym (mul-one (2 ^ (a + low f))))
place f s zero (negsuc a) h = (low f, omega (arith, ap (λ (x : ℕ). 2 ^ low f * x) (eqb→eq (1 * 2 ^ suc a) 1 h)))
place f s (suc m) (negsuc a) h =
    let l = (middle f s m (negsuc a) h).1 in
    (low f - suc a, omega (arith, joins (low f) (suc a) (within (low f) (suc a) l)))

small : (f : Format) (s : Bool) (m : ℕ) (e : ℤ) → T (fits f (fin s m e)) → m < 2 ^ prec f
small f s zero e h = pow_pos (prec f)
small f s (suc m) e h = (middle f s m e h).0

-- ---- the product is exact
wide : (f : Format) → 2 ^ 47 ≤ 2 ^ suc (emax f)
wide binary32 = pow_mono {i = 47} {j = 128} (omega arith)
wide binary64 = pow_mono {i = 47} {j = 1024} (omega arith)

-- m * 2 ^ (k + j) units, with D for `down e`, U for `up e` and L for the smallest value's denominator
same_size : (m U D L K J : ℕ) → U * L ≡ J * D → m * U * K * L ≡ m * (K * J) * D
same_size m U D L K J h = simp (mul_assoc, mul_comm, mul_left_comm) (simp (mul_assoc, mul_comm, mul_left_comm) at (ap (λ (x : ℕ). m * K * x) h))

under : (q D n K L : ℕ) → 0 < D → q * D ≡ n * K * L → n ≤ 2147483647 * D → q ≤ 2147483647 * (K * L)
under q D n K L d e h =
    le_of_mul-le-mul_right {k = D}
    (le_trans (le_of_eq (e ∙ mul_assoc n K L)) (le_trans (mul-le-mul_right (K * L) h) (le_of_eq (simp (mul_assoc, mul_comm, mul_left_comm))))) d

room : (f : Format) (k q : ℕ) → k ≤ 16 → q ≤ 2147483647 * (2 ^ k * 2 ^ low f) → q < 2 ^ (low f + suc (emax f))
room f k q K h =
    let a : 2 ^ k * 2 ^ low f ≤ 2 ^ 16 * 2 ^ low f = mul-le-mul_right (2 ^ low f) (pow_mono K) in
    let b : 2 ^ low f * 2 ^ 47 ≤ 2 ^ low f * 2 ^ suc (emax f) = mul-le-mul_left (2 ^ low f) (wide f) in
    omega (arith, pow-add 2 (low f) (suc (emax f)), pow_pos (low f))

exact : (f : Format) (s : Bool) (m : ℕ) (e : ℤ) (k : ℕ) → T (fits f (fin s m e)) → k ≤ 16 → m * up e ≤ 2147483647 * down e
    → HasValue (round f s (m * up e * 2 ^ k) (down e)) s (m * up e * 2 ^ k) (down e)
exact f s m e k F K B =
    let P = place f s m e F in
    let j = P.0 in
    let h : m * up e * 2 ^ k * 2 ^ low f ≡ m * 2 ^ (k + j) * down e = rw (pow-add 2 k j) (same_size m (up e) (down e) (2 ^ low f) (2 ^ k) (2 ^ j) P.1) in
    round_exact f s (m * up e * 2 ^ k) (down e) m (k + j) (down_pos e) (small f s m e F)
    (room f k (m * 2 ^ (k + j)) K (under (m * 2 ^ (k + j)) (down e) (m * up e) (2 ^ k) (2 ^ low f) (down_pos e) (sym h) B)) h

-- ---- the code's product is that one
like : (s : Bool) → unlike s false ≡ s
like true = refl
like false = refl

cross : (n v D d K : ℕ) → v ≡ K * d → n * v * D ≡ n * K * (D * d)
cross n v D d K h = simp (mul_assoc, mul_comm, mul_left_comm) (simp (mul_assoc, mul_comm) at (ap (λ (x : ℕ). n * D * x) h))

times : (f : Format) (s : Bool) (m : ℕ) (e : ℤ) (y : Float) (K : ℕ) → HasValue y false K 1 → mul f (fin s m e) y ≡ round f s (m * up e * K) (down e)
unfolding mul
times f s m e nan K v = absurd v
times f s m e (inf t) K v = absurd v
times f s m e (fin true n d) K v = absurd (true≢false v.0)
times f s m e (fin false n d) K v =
    ap (λ (t : Bool). round f t (m * up e * (n * up d)) (down e * down d)) (like s)
    ∙ round_same f s (m * up e * (n * up d)) (down e * down d) (m * up e * K) (down e) (mul-pos (down_pos e) (down_pos d)) (down_pos e) (cross (m * up e) (n * up d) (down e) (down d) K (omega (arith, v.1)))

scale-value : (k : ℕ) → k ≤ 16 → HasValue (of_int binary64 (pos (2 ^ k))) false (2 ^ k) 1
unfolding of_int
scale-value k K = round_whole binary64 false (2 ^ k) (le_trans (pow_mono K) (omega arith))

-- x times the scale, in marks
pub marks : (s : Bool) (m : ℕ) (e : ℤ) (k : ℕ) → T (fits binary64 (fin s m e)) → k ≤ 16 → m * up e ≤ 2147483647 * down e
    → HasValue (mul binary64 (fin s m e) (of_int binary64 (pos (2 ^ k)))) s (m * up e * 2 ^ k) (down e)
marks s m e k F K B =
    subst (λ (y : Float). HasValue y s (m * up e * 2 ^ k) (down e)) (sym (times binary64 s m e (of_int binary64 (pos (2 ^ k))) (2 ^ k) (scale-value k K))) (exact binary64 s m e k F K B)
