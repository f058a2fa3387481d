-- The theorem of enclosure, in fractions. Assumes nothing.
use Rattle.std.proofs.Common.{◌≡◌, ℕ, List, pos, sym, refl, ap, ◌∙◌, subst}
use mathlib.Core.Quot.{sound}
use Rattle.rational.specs.Fraction.{Fraction, whole, powᶠ, ◌+ᶠ◌, ◌-ᶠ◌, ◌*ᶠ◌}
use Rattle.rational.proofs.Solver.{◌⊕◌, ◌⊗◌, ⊖◌, ◌⊝◌, ◌≈◌, ring3}
use Rattle.rational.proofs.Rational.{ℚ, ⟦◌⟧, ◌*ℚ◌, of, of_is, ℚ_ring, add_is, sub_is, mul_is, le_out}
use Rattle.rational.proofs.Order.{≤ℚ_add}
use Rattle.rational.proofs.Powers.{pow_is}
use Rattle.interval.specs.Interval.{◌within◌}
use Rattle.interval.specs.Hull.{hull}
use Rattle.interval.specs.Hull.{value as value_of_lem}
use Rattle.interval.specs.Kind.{KindMeaning}
use Rattle.interval.proofs.Enclosure.{inside_of, within_of, inside-sum, hull-holds}
use Rattle.polynomial.specs.Value.{lower_value, upper_value, Units}
use Rattle.polynomial.specs.Method.{MethodMeaning, Polynomial}
use Rattle.taylor.specs.Model.{Model, full_range}
use Rattle.taylor.specs.Selection.{Selects, Encloses, marks}
use Rattle.taylor.specs.Enclosure.{Carries, SelectionEncloses, OperationsCarry, ArithmeticEncloses}
use Rattle.taylor.proofs.Values.{Holds, selects_in, selects_out}
use Rattle.taylor.proofs.Bounds.{value_low, value-high, value_ranged}
use Rattle.taylor.proofs.Carrying.{sum-holds, negated-holds, constant-holds, product-carries, times-carries}
use Rattle.taylor.proofs.Raising.{power-carries}

marks_are : (S : ℕ) (x : Fraction) → ⟦ marks S x ⟧ ≡ ⟦ x ⟧ *ℚ of (pos S)
marks_are S x = sym (mul_is x (whole (pos S))) ∙ ap (λ z. ⟦ x ⟧ *ℚ z) (sym (of_is (pos S)))

module _ (us : List Fraction) where
  selected_encloses : (M : Model) (x : Fraction) → Selects us M x → Encloses us M x
  selected_encloses M x s =
      let E = selects_in us s in
      record {
        low = le_out (lower_value us M.terms +ᶠ whole M.remainder.lower) x
            (rw (E.sum, ← add_is (lower_value us M.terms) (whole M.remainder.lower), ← of_is M.remainder.lower) (≤ℚ_add (value_low us M.terms E.poly_in) E.rest_in.low));
        high = le_out x (upper_value us M.terms +ᶠ whole M.remainder.upper)
            (rw (E.sum, ← add_is (upper_value us M.terms) (whole M.remainder.upper), ← of_is M.remainder.upper) (≤ℚ_add (value-high us M.terms E.poly_in) E.rest_in.high));
      }

  selected_ranges : (m : MethodMeaning) (M : Model) (x : Fraction) → Units us → Polynomial M.terms → Selects us M x → x within full_range m M
  selected_ranges m M x U P s = let E = selects_in us s in within_of (rw E.sum (inside-sum (value_ranged us m M.terms U P E.poly_in) E.rest_in))

  pub selection_encloses : SelectionEncloses us
  selection_encloses = record { encloses = selected_encloses; ranges = selected_ranges; equals = λ M x y e s. selects_out us y (sym (sound e)) (selects_in us s) }

  module _ (k : KindMeaning) where
    -- x units
    carries_in : (M : Model) (x : Fraction) → Carries k us M x → Holds us M (⟦ x ⟧ *ℚ of (pos k.scale))
    carries_in M x s = subst (λ (z : ℚ). Holds us M z) (marks_are k.scale x) (selects_in us s)

    carries_out : (M : Model) (x : Fraction) {v : ℚ} → ⟦ x ⟧ ≡ v → Holds us M (v *ℚ of (pos k.scale)) → Carries k us M x
    carries_out M x e h = selects_out us (marks k.scale x) (marks_are k.scale x ∙ ap (λ z. z *ℚ of (pos k.scale)) e) h

    pub operations_carry : (m : MethodMeaning) (order : ℕ) → Units us → OperationsCarry k m order us
    unfolding hull
    operations_carry m order U = record {
      intervals = λ i x f h. selects_out us x refl (constant-holds us k i x f (inside_of h));
      constants = λ x f. selects_out us (marks k.scale (value_of_lem x)) refl (constant-holds us k (hull k.scale x) (marks k.scale (value_of_lem x)) f (inside_of (hull-holds (marks k.scale (value_of_lem x)))));
      sums = λ M N R x y E F e. carries_out R (x +ᶠ y) (sym (add_is x y))
          (rw (ring3 ℚ_ring (λ x y s. (x ⊕ y) ⊗ s ≈ x ⊗ s ⊕ y ⊗ s) tt ⟦ x ⟧ ⟦ y ⟧ (of (pos k.scale))) (sum-holds us M N R (carries_in M x E) (carries_in N y F) e));
      differences = λ M N R x y E F e. carries_out R (x -ᶠ y) (sym (sub_is x y))
          (rw (ring3 ℚ_ring (λ x y s. (x ⊝ y) ⊗ s ≈ x ⊗ s ⊕ ⊖ (y ⊗ s)) tt ⟦ x ⟧ ⟦ y ⟧ (of (pos k.scale))) (sum-holds us M _ R (carries_in M x E) (negated-holds us N (carries_in N y F)) e));
      products = λ M N R x y P Q E F e. carries_out R (x *ᶠ y) (sym (mul_is x y)) (product-carries us U k m order M N R ⟦ x ⟧ ⟦ y ⟧ P Q (carries_in M x E) (carries_in N y F) e);
      worked_products = λ w v N x y P Q E F e. carries_out v.model (x *ᶠ y) (sym (mul_is x y)) (times-carries us U k m order w v N ⟦ x ⟧ ⟦ y ⟧ P Q (carries_in w.model x E) (carries_in N y F) e);
      powers = λ n M w x P E e. carries_out w.model (powᶠ x n) (sym (pow_is x n)) (power-carries us U k m order n M w ⟦ x ⟧ P (carries_in M x E) e);
    }

pub arithmetic_encloses : ArithmeticEncloses
arithmetic_encloses k m order us U = (selection_encloses us, operations_carry us k m order U)
