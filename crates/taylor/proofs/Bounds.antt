-- What a polynomial attains lies between the two ends of its value, and so in every method's range. Assumes nothing.
use Rattle.std.proofs.Common.{List, [], ◌∷◌, pos, ◌≤ℤ◌, refl}
use Rattle.std.specs.List.{AllByRecursion}
use Rattle.rational.specs.Fraction.{Fraction, whole}
use Rattle.rational.proofs.Rational.{ℚ, ⟦◌⟧, ◌+ℚ◌, ◌*ℚ◌, of, of_is, ◌≤ℚ◌, le_in}
use Rattle.rational.proofs.Order.{≤ℚ_refl, ≤ℚ_trans, of_mono}
use Rattle.interval.proofs.Enclosure.{◌inside◌, inside_ordered}
use Rattle.polynomial.specs.declared.term.Term.{Term}
use Rattle.polynomial.specs.Value.{lower_value, upper_value, Units, value_with}
use Rattle.polynomial.specs.Method.{MethodMeaning, Polynomial, FitTerm}
use Rattle.polynomial.proofs.Reaches.{value}
use Rattle.polynomial.proofs.Values.{values_between}
use Rattle.taylor.proofs.Values.{Value, value_out}

module _ (us : List Fraction) where
  pub value_low : (ts : List Term) {v : ℚ} → Value us ts v → ⟦ lower_value us ts ⟧ ≤ℚ v
  value_low ts V =
      let f = value_out us ts V in
      rw (← f.2) (le_in (lower_value us ts) (value_with us f.0 ts) (values_between us f.0 ts f.1).0)

  pub value-high : (ts : List Term) {v : ℚ} → Value us ts v → v ≤ℚ ⟦ upper_value us ts ⟧
  value-high ts V =
      let f = value_out us ts V in
      rw (← f.2) (le_in (value_with us f.0 ts) (upper_value us ts) (values_between us f.0 ts f.1).1)

  -- the method's law
  pub value_ranged : (m : MethodMeaning) (ts : List Term) {v : ℚ} → Units us → Polynomial ts → Value us ts v → v inside m.range ts
  value_ranged m ts {v} U P V =
      let h = (m.laws ts P).holds us U in
      record {
        low = ≤ℚ_trans (rw of_is (le_in (whole (m.range ts).lower) (lower_value us ts) h.low)) (value_low ts V);
        high = ≤ℚ_trans (value-high ts V) (rw of_is (le_in (upper_value us ts) (whole (m.range ts).upper) h.high));
      }

-- the value of the lower ends, with no coordinates
lowest : List Term → ℚ
lowest [] = of (pos 0)
lowest (t ∷ ts) = ⟦ whole t.coefficient.lower ⟧ *ℚ value [] t.monomial +ℚ lowest ts

lowest_value : (ts : List Term) → AllByRecursion FitTerm ts → Value [] ts (lowest ts)
unfolding lowest
lowest_value [] A = refl
lowest_value (t ∷ ts) A =
    let c = t.coefficient in
    (whole c.lower, lowest ts, rw (← of_is c.lower) (record { low = ≤ℚ_refl (of c.lower); high = of_mono A.0.fit.order }), lowest_value ts A.1, refl)

-- so a range has its ends in order
pub range-order : (m : MethodMeaning) (ts : List Term) → Polynomial ts → (m.range ts).lower ≤ℤ (m.range ts).upper
range-order m ts P = inside_ordered (value_ranged [] m ts tt P (lowest_value ts P.fit))
