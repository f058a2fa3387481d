-- The reach of an interval under a monomial holds its values, times the monomial's, at every unit point, and is as small.
-- Assumes nothing.
use Rattle.std.proofs.Common.{◌≡◌, ℕ, ◌+◌, ◌*◌, ◌/◌, ◌%◌, true, cond, eqb, List, [], ◌∷◌, pos, negsuc, sym, ap, ◌∙◌, subst, ap₂, arith}
use borrow.Author.Differences.{ints}
use Rattle.std.proofs.lemmas.List.Sums.{sum_by-cons}
use Rattle.std.proofs.lemmas.Bool.{eqb-true, and_parts, cond_both}
use Rattle.rational.specs.Fraction.{Fraction, whole, powᶠ}
use Rattle.rational.proofs.Solver.{lit, ◌⊗◌, ◌≈◌, ring1}
use Rattle.rational.proofs.Rational.{ℚ, ⟦◌⟧, ◌*ℚ◌, of, of_is, ℚ_ring, mul_is}
use Rattle.rational.proofs.Order.{≤ℚ_refl, of_mono}
use Rattle.rational.proofs.Powers.{Unital, Partial, pow, pow_is, unital_mul, unital_pow, partial_mul, pow_even_partial}
use Rattle.interval.specs.declared.marks.Interval.{Interval}
use Rattle.interval.specs.Interval.{◌within◌, interval, even_reach, full_reach, Sized}
use Rattle.interval.proofs.Enclosure.{◌inside◌, inside_of}
use Rattle.interval.proofs.Reaching.{reach-even, reach-full}
use Rattle.interval.proofs.Sizes.{sized-even, sized-full}
use Rattle.table.specs.Monomial.{Monomial, degree, even}
use Rattle.polynomial.specs.Reach.{reach}
use Rattle.polynomial.specs.Value.{monomial_value, Units}

-- ---- a monomial's value
abbrev pub value : List Fraction → Monomial → ℚ
value us m = ⟦ monomial_value us m ⟧

pub one_is : ⟦ whole (pos 1) ⟧ ≡ of (pos 1)
one_is = sym (of_is (pos 1))

pub value_cons : (u : Fraction) (us : List Fraction) (e : ℕ) (m : Monomial) → value (u ∷ us) (e ∷ m) ≡ pow ⟦ u ⟧ e *ℚ value us m
value_cons u us e m = rw pow_is (sym (mul_is (powᶠ u e) (monomial_value us m)))

-- a coordinate from -1 to 1
pub unit : {u : Fraction} → u within interval (negsuc 0) (pos 1) → Unital ⟦ u ⟧
unit h = let i = inside_of h in record { low = i.low; high = i.high }

pub one_unital : Unital (of (pos 1))
one_unital = record { low = of_mono (omega (arith, ints)); high = ≤ℚ_refl (of (pos 1)) }

one_partial : Partial (of (pos 1))
one_partial = record { low = of_mono (omega (arith, ints)); high = ≤ℚ_refl (of (pos 1)) }

pub value_unital : (us : List Fraction) → Units us → (m : Monomial) → Unital (value us m)
value_unital us U [] = rw one_is one_unital
value_unital [] U (e ∷ m) = rw one_is one_unital
value_unital (u ∷ us) U (e ∷ m) = rw value_cons (unital_mul (unital_pow (unit U.0) e) (value_unital us U.1 m))

value_partial : (us : List Fraction) → Units us → (m : Monomial) → even m ≡ true → Partial (value us m)
value_partial us U [] t = rw one_is one_partial
value_partial [] U (e ∷ m) t = rw one_is one_partial
value_partial (u ∷ us) U (e ∷ m) t =
    let h = and_parts (eqb (e % 2) 0) (even m) t in
    let z : e % 2 ≡ 0 = eqb-true (e % 2) 0 h.0 in
    let d : e ≡ 2 * (e / 2) = omega arith in
    let p : Partial (pow ⟦ u ⟧ e) = subst (λ (k : ℕ). Partial (pow ⟦ u ⟧ k)) (sym d) (pow_even_partial (unit U.0) (e / 2)) in
    rw value_cons (partial_mul p (value_partial us U.1 m h.1))

value_none : (us : List Fraction) (m : Monomial) → degree m ≡ 0 → value us m ≡ of (pos 1)
value_none us [] z = one_is
value_none [] (e ∷ m) z = one_is
value_none (u ∷ us) (e ∷ m) z =
    let d : degree (e ∷ m) ≡ e + degree m = sum_by-cons (λ x. x) e m in
    let p : e ≡ 0 = omega (arith, d, z) in
    let q : degree m ≡ 0 = omega (arith, d, z) in
    value_cons u us e m ∙ ap₂ ◌*ℚ◌ (ap (pow ⟦ u ⟧) p ∙ pow_is u 0 ∙ one_is) (value_none us m q) ∙ ring1 ℚ_ring (λ x. lit (pos 1) ⊗ lit (pos 1) ≈ lit (pos 1)) tt (of (pos 1))

pub reach-holds : (us : List Fraction) → Units us → (m : Monomial) {I : Interval} {v : ℚ} → v inside I → v *ℚ value us m inside reach m I
reach-holds us U m {I} {v} V =
    cond_both (eqb (degree m) 0) I (cond (even m) (even_reach I) (full_reach I)) (λ z. v *ℚ value us m inside z)
    (λ t. rw (value_none us m (eqb-true (degree m) 0 t), ring1 ℚ_ring (λ v. v ⊗ lit (pos 1) ≈ v) tt v) V)
    (λ _. cond_both (even m) (even_reach I) (full_reach I) (λ z. v *ℚ value us m inside z) (λ t. reach-even V (value_partial us U m t)) (λ _. reach-full V (value_unital us U m)))

-- a reach is as small as the interval
pub sized-reach : (m : Monomial) {n : ℕ} {i : Interval} → Sized n i → Sized n (reach m i)
sized-reach m {n} {i} s =
    cond_both (eqb (degree m) 0) i (cond (even m) (even_reach i) (full_reach i)) (Sized n) (λ _. s)
    (λ _. cond_both (even m) (even_reach i) (full_reach i) (Sized n) (λ _. sized-even s) (λ _. sized-full s))
