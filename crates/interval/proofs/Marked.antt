-- What `hull` computes is the hull, on each of its ways. Assumes nothing.
use Rattle.std.proofs.Common.{◌≡◌, ℕ, zero, suc, ◌*◌, ◌^◌, ◌<◌, ◌≤◌, Bool, true, false, cond, ◌&&◌, ◌||◌, T, eqb, ltb, leb, ℤ, pos, neg_ℤ, ◌≤ℤ◌, ◌<ℤ◌, Some, None, sym, refl, ap, ◌∙◌, subst, ap₂, true≢false, mul-le-mul, mul-le-mul_left, mul-one, arith, pow_pos, pow_mono, w64, to_z, of_z, leb-false, leb-true}
use lib.Signed.{mag}
use lib.Ieee as Ieee
use lib.Ieee.{Float, nan, inf, fin, binary64, up, down, mul, le, of_bits, of_int, to_signed}
use lib.Ieee.Fits.{down_pos}
use borrow.Author.Differences.{ints}
use Rattle.std.specs.Float.{float_is_finite, float_with_sign, floor, ceil}
use Rattle.std.proofs.lemmas.Int.{to_z-of_z, by_lt_z}
use Rattle.std.proofs.lemmas.Bool.Decides.{nat_tests}
use Rattle.rational.proofs.Whole.{scale_≤}
use Rattle.interval.specs.Interval.{interval, limit, fits, floor_div, ceil_div}
use Rattle.interval.specs.Hull.{signed, hull, hulled}
use Rattle.interval.proofs.Enclosure.{floor_le, le_ceil}
use Rattle.interval.proofs.Scaled.{marks}
use Rattle.interval.proofs.Casts.{signed-times, low_is, high_is}

-- the hull of a finite value, with the scale in the numerator
hull_is : (S : ℕ) (s : Bool) (m : ℕ) (e : ℤ) → hull S (fin s m e) ≡ interval (floor_div (signed s (m * up e * S)) (down e)) (ceil_div (signed s (m * up e * S)) (down e))
unfolding hull
hull_is S s m e = ap₂ (λ z d. interval (floor_div z d) (ceil_div z d)) (signed-times s (m * up e) S) (mul-one (down e))

-- ---- the test on the size
abbrev bound : Float
bound = of_bits binary64 0x41df_ffff_ffc0_0000

bound_is : bound ≡ fin false limit (pos 0)
unfolding of_bits
bound_is = refl

-- `le` of two values that are not negative
order : (a b : ℕ) → (ltb a b || (eqb a b && true)) ≡ leb a b
order a b = grind (arith, nat_tests)

sized : (m : ℕ) (e : ℤ) → le (fin false m e) bound ≡ leb (m * up e * 1) (limit * down e)
unfolding le
sized m e = ap (le (fin false m e)) bound_is ∙ order (m * up e * 1) (limit * 1 * down e) ∙ ap (leb (m * up e * 1)) (omega arith)

at_most : (m : ℕ) (e : ℤ) → le (fin false m e) bound ≡ true → m * up e ≤ limit * down e
at_most m e h = omega (arith, leb-true _ _ (sym (sized m e) ∙ h))

above : (m : ℕ) (e : ℤ) → le (fin false m e) bound ≡ false → limit * down e < m * up e
above m e h = omega (arith, leb-false _ _ (sym (sized m e) ∙ h))

-- ---- past it
past_high : (n d : ℕ) → 0 < d → limit * d < n → pos limit <ℤ ceil_div (pos n) d
past_high n d D h =
    by_lt_z (pos limit) (ceil_div (pos n) d) (λ t. t) (λ (t : ceil_div (pos n) d ≤ℤ pos limit).
    absurd (let s = scale_≤ d t in let c = le_ceil (pos n) d D in omega (arith, ints)))

past_low : (n d : ℕ) → 0 < d → limit * d < n → floor_div (neg_ℤ (pos n)) d <ℤ neg_ℤ (pos limit)
past_low n d D h =
    by_lt_z (floor_div (neg_ℤ (pos n)) d) (neg_ℤ (pos limit)) (λ t. t) (λ (t : neg_ℤ (pos limit) ≤ℤ floor_div (neg_ℤ (pos n)) d).
    absurd (let s = scale_≤ d t in let c = floor_le (neg_ℤ (pos n)) d D in omega (arith, ints)))

outside : (s : Bool) (n d : ℕ) → 0 < d → limit * d < n → fits (interval (floor_div (signed s n) d) (ceil_div (signed s n) d)) ≡ false
outside true n d D h = let p = past_low n d D h in grind (arith, ints)
outside false n d D h = let p = past_high n d D h in grind (arith, ints)

unfit : (x : Float) (S : ℕ) → fits (hull S x) ≡ false → None ≡ hulled S x
unfit x S e = sym (ap (λ b. cond (float_is_finite x && b) (Some (hull S x)) None) e ∙ none (float_is_finite x))
  where
    none : (b : Bool) → cond (b && false) (Some (hull S x)) None ≡ None
    none true = refl
    none false = refl

pub too_large : (x y : Float) (k : ℕ) → y ≡ float_with_sign false x → le y bound ≡ false → None ≡ hulled (2 ^ k) x
unfolding float_with_sign float_is_finite
too_large nan y k e h = refl
too_large (inf s) y k e h = refl
too_large (fin s m d) y k e h =
    let S = 2 ^ k in
    let a = above m d (sym (ap (λ (z : Float). le z bound) e) ∙ h) in
    let g : limit * down d < m * up d * S = omega (arith, mul-le-mul_left (m * up d) (pow_pos k)) in
    unfit (fin s m d) S (ap fits (hull_is S s m d) ∙ outside s (m * up d * S) (down d) (down_pos d) g)

-- ---- within it
-- what the code computes, at a scale of 2 ^ k
abbrev cast_low : ℕ → Float → ℤ
cast_low S x = to_signed 63 (floor binary64 (mul binary64 x (of_int binary64 (pos S))))

abbrev cast_high : ℕ → Float → ℤ
cast_high S x = to_signed 63 (ceil binary64 (mul binary64 x (of_int binary64 (pos S))))

exact : (k : ℕ) → k ≤ 16 → (s : Bool) (m : ℕ) (e : ℤ) → T (Ieee.fits binary64 (fin s m e)) → m * up e ≤ limit * down e
    → interval (cast_low (2 ^ k) (fin s m e)) (cast_high (2 ^ k) (fin s m e)) ≡ hull (2 ^ k) (fin s m e)
exact k K s m e F B =
    let v = marks s m e k F K B in
    let y = mul binary64 (fin s m e) (of_int binary64 (pos (2 ^ k))) in
    let n = m * up e * 2 ^ k in
    let b : n ≤ 2 ^ 48 * down e = omega (arith, mul-le-mul B (pow_mono K)) in
    ap₂ interval (low_is y s n (down e) (down_pos e) b v) (high_is y s n (down e) (down_pos e) b v) ∙ sym (hull_is (2 ^ k) s m e)

sign_fits : (s : Bool) (m : ℕ) (e : ℤ) → Ieee.fits binary64 (fin false m e) ≡ Ieee.fits binary64 (fin s m e)
unfolding Ieee.fits
sign_fits s zero e = refl
sign_fits s (suc m) e = refl

-- a finite value, and the ends that are passed on are those of its hull
pub computed : (x y : Float) (k S : ℕ) (lo hi : ℤ) → k ≤ 16 → S ≡ 2 ^ k → y ≡ float_with_sign false x → Ieee.fits binary64 y ≡ true → le y bound ≡ true
    → lo ≡ cast_low S x → mag lo < 2 ^ 63 → hi ≡ cast_high S x → mag hi < 2 ^ 63
    → cond (fits (interval (to_z w64 (of_z w64 lo)) (to_z w64 (of_z w64 hi)))) (Some (interval (to_z w64 (of_z w64 lo)) (to_z w64 (of_z w64 hi)))) None ≡ hulled (2 ^ k) x
unfolding float_with_sign le float_is_finite
computed nan y k S lo hi K p e f t l lf h hf = absurd (true≢false (sym t ∙ ap (λ (z : Float). le z bound) e))
computed (inf s) y k S lo hi K p e f t l lf h hf = absurd (true≢false (sym t ∙ ap (λ (z : Float). le z bound) e ∙ ap (le (inf false)) bound_is))
computed (fin s m d) y k S lo hi K p e f t l lf h hf =
    let F : T (Ieee.fits binary64 (fin s m d)) = subst T (sym (sym (sign_fits s m d) ∙ ap (Ieee.fits binary64) (sym e) ∙ f)) tt in
    let B = at_most m d (ap (λ (z : Float). le z bound) (sym e) ∙ t) in
    let a = to_z-of_z w64 lo (record { sfits = lf }) ∙ l ∙ ap (λ z. cast_low z (fin s m d)) p in
    let b = to_z-of_z w64 hi (record { sfits = hf }) ∙ h ∙ ap (λ z. cast_high z (fin s m d)) p in
    ap (λ i. cond (fits i) (Some i) None) (ap₂ interval a b ∙ exact k K s m d F B)
