-- Intervals of one number: their sums, products and reaches are such again, and [0, 0] makes [0, 0]. Assumes nothing.
use Rattle.std.proofs.Common.{◌≡◌, ℕ, ◌*◌, ◌<◌, Bool, true, false, cond, eqb, List, [], ◌∷◌, ℤ, pos, negsuc, ◌+ℤ◌, ◌*ℤ◌, neg_ℤ, Ok, sym, refl, ap, ◌∙◌, ap₂, mul-one, arith}
use lib.Ieee.{Float}
use Rattle.std.specs.Int.{int_min, int_max}
use Rattle.std.specs.List.{AllByRecursion}
use Rattle.std.proofs.ByRecursion.{All-weaker, All-map, all_kept_by}
use Rattle.std.proofs.lemmas.Int.{ints, clamps}
use Rattle.rational.specs.Fraction.{whole, ◌=ᶠ◌}
use Rattle.rational.proofs.Solver.{lit, ◌⊗◌, ◌≈◌, ring2}
use Rattle.rational.proofs.Whole.{ℤ_ring}
use Rattle.interval.specs.declared.marks.Interval.{Interval}
use Rattle.interval.specs.declared.variable.Variable.{Variable}
use Rattle.interval.specs.Interval.{interval, zero_interval, floor_div, ceil_div, plus, negated, times, even_reach, full_reach}
use Rattle.interval.specs.Hull.{value, hull}
use Rattle.interval.proofs.Rounding.{floor_same, ceil_same}
use Rattle.table.specs.Monomial.{Monomial, constant_monomial, linear, degree, even}
use Rattle.table.specs.Order.{by_degree}
use Rattle.table.specs.Table.{entered}
use Rattle.table.proofs.Growth.{all_entered}
use Rattle.polynomial.specs.declared.term.Term.{Term}
use Rattle.polynomial.specs.Reach.{term, reach, joined, joins, dropped}
use Rattle.taylor.specs.Model.{Model}
use Rattle.taylor.specs.Arithmetic.{variable_model, negated_model, sum}
use Rattle.taylor.specs.Exactness.{Point, Pointed}
use Rattle.taylor.proofs.Made.{sum_made}

-- ---- intervals
pub interval_is : {i : Interval} {a b : ℤ} → i.lower ≡ a → i.upper ≡ b → i ≡ interval a b
interval_is p q = λ j. interval (p j) (q j)

floor_one : (z : ℤ) → floor_div z 1 ≡ z
floor_one (pos n) = omega (arith, ints)
floor_one (negsuc n) = omega (arith, ints)

ceil_one : (z : ℤ) → ceil_div z 1 ≡ z
ceil_one z = ap neg_ℤ (floor_one (neg_ℤ z)) ∙ omega (arith, ints)

same_min : (p : ℤ) → int_min (int_min p p) (int_min p p) ≡ p
same_min p = omega (arith, ints, clamps)

same_max : (p : ℤ) → int_max (int_max p p) (int_max p p) ≡ p
same_max p = omega (arith, ints, clamps)

-- the product of two points
pub times-point : (i j : Interval) → Point i → Point j → Point (times 1 i j)
unfolding times
times-point i j p q =
    let z = i.lower *ℤ j.lower in
    rw (← p, ← q) (floor_one (int_min (int_min z z) (int_min z z)) ∙ same_min z ∙ sym (ceil_one (int_max (int_max z z) (int_max z z)) ∙ same_max z))

zero_right : (z : ℤ) → z *ℤ pos 0 ≡ pos 0
zero_right z = ring2 ℤ_ring (λ x y. x ⊗ lit (pos 0) ≈ lit (pos 0)) tt z z

-- anything times [0, 0]
pub times_zero : (i : Interval) → times 1 i zero_interval ≡ zero_interval
unfolding times
times_zero i = rw (zero_right i.lower, zero_right i.upper) refl

pub reach_zero : (m : Monomial) → reach m zero_interval ≡ zero_interval
reach_zero m = go (eqb (degree m) 0) (even m)
  where
    go : (a b : Bool) → cond a zero_interval (cond b (even_reach zero_interval) (full_reach zero_interval)) ≡ zero_interval
    go true b = refl
    go false true = refl
    go false false = refl

pub plus_zero : {i j : Interval} → i ≡ zero_interval → j ≡ zero_interval → plus i j ≡ zero_interval
plus_zero p q = rw (p, q) refl

-- a whole number is its own hull
pub whole-hull : (x : Float) (z : ℤ) → value x =ᶠ whole z → Point (hull 1 x)
unfolding hull
whole-hull x z e =
    let a = value x in
    let d : 0 < a.den = a.above in
    let same : (a.num *ℤ pos 1) *ℤ pos 1 ≡ z *ℤ pos (a.den * 1) = ap (λ n. n *ℤ pos 1) e ∙ rw (mul-one a.den) (ring2 ℤ_ring (λ z d. (z ⊗ d) ⊗ lit (pos 1) ≈ z ⊗ d) tt z (pos a.den)) in
    floor_same (a.num *ℤ pos 1) (a.den * 1) z 1 (omega arith) (omega arith) same ∙ floor_one z
    ∙ sym (ceil_same (a.num *ℤ pos 1) (a.den * 1) z 1 (omega arith) (omega arith) same ∙ ceil_one z)

-- ---- tables
abbrev pub Points : List Term → Type 0
Points ts = AllByRecursion (λ t. Point t.coefficient) ts

pub plus-point : {i j : Interval} → Point i → Point j → Point (plus i j)
plus-point p q = ap₂ ◌+ℤ◌ p q

joins-points : (ts qs : List Term) → Points ts → Points qs → Points (joins ts qs)
joins-points ts [] A B = A
joins-points ts (q ∷ qs) A B =
    joins-points (entered by_degree (λ t. t.monomial) joined ts q) qs
    (all_entered by_degree (λ t. t.monomial) joined (λ t. Point t.coefficient) (λ t. Point t.coefficient) q (λ x p. p) B.0 (λ x p. plus-point p B.0) ts A) B.1

pub dropped-points : (ts : List Term) → Points ts → Points (dropped ts)
dropped-points ts A = all_kept_by _ (λ t. Point t.coefficient) ts A

-- ---- sums and variables
pub sum_pointed : (M N R : Model) → Pointed M → Pointed N → sum M N ≡ Ok R → Pointed R
sum_pointed M N R P Q e = rw (sum_made M N R e).is (record {
  coefficients = dropped-points (joins M.terms N.terms) (joins-points M.terms N.terms P.coefficients Q.coefficients);
  remainder = plus_zero P.remainder Q.remainder;
})

pub negated_pointed : (M : Model) → Pointed M → Pointed (negated_model M)
negated_pointed M P = record {
  coefficients = All-map (λ t. Point t.coefficient) (λ t. term t.monomial (negated t.coefficient)) M.terms
      (All-weaker (λ t. Point t.coefficient) (λ t. Point (negated t.coefficient)) (λ t p. ap neg_ℤ (sym p)) M.terms P.coefficients);
  remainder = rw P.remainder refl;
}

pub variable_pointed : (n : ℕ) (v : Variable) → Pointed (variable_model n v)
unfolding variable_model
variable_pointed n v = record {
  coefficients = dropped-points (term constant_monomial (interval v.centre v.centre) ∷ (term (linear n) (interval v.half v.half) ∷ [])) (refl, (refl, tt));
  remainder = refl;
}
