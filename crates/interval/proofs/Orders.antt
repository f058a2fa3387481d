-- The order of finite binary64 values is the order of their exact values, and hulls keep it. Assumes nothing.
use Rattle.std.proofs.Common.{◌≡◌, ℕ, zero, suc, ◌*◌, Bool, true, false, cond, not, ◌||◌, ℤ, pos, ◌*ℤ◌, ◌≤ℤ◌, Some, None, Less, Equal, Greater, sym, refl, ◌∙◌, ap₂, true≢false, arith}
use lib.Signed.{lt_z, ≤ℤ_refl}
use lib.Ieee.{Float, nan, inf, fin, up, down, below, level, lt, le, eq}
use borrow.Author.Differences.{ints}
use Rattle.std.specs.Float.{float_is_finite}
use Rattle.std.specs.Ordering.{float_partial_cmp}
use Rattle.std.proofs.lemmas.Bool.Decides.{nat_tests}
use Rattle.rational.specs.Fraction.{Fraction, whole, ◌*ᶠ◌, ◌≤ᶠ◌}
use Rattle.rational.proofs.Laws.{product_monotone}
use Rattle.interval.specs.Comparison.{compared}
use Rattle.interval.specs.Hull.{signed, value, hull}
use Rattle.interval.proofs.Rounding.{floor_mono, ceil_mono, floor_le_ceil}
use Rattle.interval.proofs.Casts.{signed-times}

-- ---- sizes with signs
below_is : (s : Bool) (a : ℕ) (t : Bool) (b : ℕ) → below s a t b ≡ lt_z (signed s a) (signed t b)
below_is false a false b = refl
below_is false a true zero = grind (arith, nat_tests)
below_is false a true (suc b) = refl
below_is true zero false b = grind (arith, nat_tests)
below_is true (suc a) false b = grind (arith, nat_tests)
below_is true zero true zero = refl
below_is true zero true (suc b) = grind (arith, nat_tests)
below_is true (suc a) true zero = grind (arith, nat_tests)
below_is true (suc a) true (suc b) = grind (arith, nat_tests)

flipped : (s : Bool) (a : ℕ) (t : Bool) (b : ℕ) → (below s a t b || level s a t b) ≡ not (below t b s a)
flipped false a false b = grind (arith, nat_tests)
flipped false a true b = grind (arith, nat_tests)
flipped true a false b = grind (arith, nat_tests)
flipped true a true b = grind (arith, nat_tests)

-- ---- floats and their values
abbrev crossed : Fraction → Fraction → ℤ
crossed a b = a.num *ℤ pos b.den

pub lt_is : (x y : Float) → float_is_finite x ≡ true → float_is_finite y ≡ true → lt x y ≡ lt_z (crossed (value x) (value y)) (crossed (value y) (value x))
unfolding float_is_finite lt
lt_is nan y p q = absurd (true≢false (sym p))
lt_is (inf s) y p q = absurd (true≢false (sym p))
lt_is (fin s m e) nan p q = absurd (true≢false (sym q))
lt_is (fin s m e) (inf t) p q = absurd (true≢false (sym q))
lt_is (fin s m e) (fin t n d) p q =
    below_is s (m * up e * down d) t (n * up d * down e) ∙ ap₂ lt_z (sym (signed-times s (m * up e) (down d))) (sym (signed-times t (n * up d) (down e)))

pub le_flips : (x y : Float) → float_is_finite x ≡ true → float_is_finite y ≡ true → le x y ≡ not (lt y x)
unfolding float_is_finite le
le_flips nan y p q = absurd (true≢false (sym p))
le_flips (inf s) y p q = absurd (true≢false (sym p))
le_flips (fin s m e) nan p q = absurd (true≢false (sym q))
le_flips (fin s m e) (inf t) p q = absurd (true≢false (sym q))
le_flips (fin s m e) (fin t n d) p q = flipped s (m * up e * down d) t (n * up d * down e)

-- not above, as floats and as values
pub value_le : (x y : Float) → float_is_finite x ≡ true → float_is_finite y ≡ true → lt y x ≡ false → value x ≤ᶠ value y
value_le x y p q h = let e = sym (lt_is y x q p) ∙ h in grind (arith, ints)

pub le_value : (x y : Float) → float_is_finite x ≡ true → float_is_finite y ≡ true → value x ≤ᶠ value y → lt y x ≡ false
le_value x y p q h = lt_is y x q p ∙ grind (arith, ints)

-- of two numbers the first is below, equal or above, so that one of the three answers comes
one_of_three : (l e g : Bool) → (l || e) ≡ not g → cond l (Some Less) (cond e (Some Equal) (cond g (Some Greater) None)) ≡ Some (cond l Less (cond g Greater Equal))
one_of_three true e g h = refl
one_of_three false true false h = refl
one_of_three false false true h = refl
one_of_three false true true h = absurd (true≢false h)
one_of_three false false false h = absurd (true≢false (sym h))

-- finite values compare as their exact values
pub compares : (x y : Float) → float_is_finite x ≡ true → float_is_finite y ≡ true → float_partial_cmp x y ≡ compared x y
unfolding le
compares x y p q = one_of_three (lt x y) (eq x y) (lt y x) (le_flips x y p q) ∙ rw (p, q, ← lt_is x y p q, ← lt_is y x q p)

-- ---- hulls
pub scaled_le : (S : ℕ) (x y : Float) → value x ≤ᶠ value y → (value x *ᶠ whole (pos S)) ≤ᶠ (value y *ᶠ whole (pos S))
scaled_le S x y h = product_monotone (value x) (value y) (whole (pos S)) (omega (arith, ints)) h

pub hull_mono : (S : ℕ) (x y : Float) → value x ≤ᶠ value y → ((hull S x).lower ≤ℤ (hull S y).lower) × ((hull S x).upper ≤ℤ (hull S y).upper)
unfolding hull
hull_mono S x y h =
    let a = value x *ᶠ whole (pos S) in
    let b = value y *ᶠ whole (pos S) in
    let k = scaled_le S x y h in
    (floor_mono a.num a.den b.num b.den a.above b.above k, ceil_mono a.num a.den b.num b.den a.above b.above k)

pub hull_ordered : (S : ℕ) (x : Float) → (hull S x).lower ≤ℤ (hull S x).upper
unfolding hull
hull_ordered S x = let a = value x *ᶠ whole (pos S) in floor_le_ceil a.num a.num a.den a.above (≤ℤ_refl a.num)
