-- A polynomial's value is a sum of chosen ends, each times its monomial. Assumes nothing.
use Rattle.std.proofs.Common.{◌≡◌, Bool, true, false, cond, List, [], ◌∷◌, ℤ, pos, ◌*ℤ◌, ◌≤ℤ◌, sym, ap, ◌∙◌, ap₂, arith}
use lib.Signed.{le_z}
use Rattle.std.proofs.lemmas.Int.{ints}
use Rattle.rational.specs.Fraction.{Fraction, whole, ◌*ᶠ◌, minᶠ, maxᶠ}
use Rattle.rational.proofs.Rational.{ℚ, ⟦◌⟧, ◌+ℚ◌, ◌*ℚ◌, of, of_is, ℚ_ring, add_is, mul_is}
use Rattle.interval.specs.declared.marks.Interval.{Interval}
use Rattle.interval.proofs.Enclosure.{◌inside◌, within_of}
use Rattle.table.specs.Monomial.{Monomial}
use Rattle.polynomial.specs.declared.term.Term.{Term}
use Rattle.polynomial.specs.Value.{monomial_value, lower_times, upper_times, lower_value, upper_value}
use Rattle.polynomial.specs.Method.{Holds}
use Rattle.polynomial.proofs.Reaches.{value}
use Rattle.polynomial.proofs.Totals.{total}

-- a number of marks in each coefficient
abbrev pub Choice : (Term → ℤ) → Type 0
Choice choose = (t : Term) → (t.coefficient.lower ≤ℤ t.coefficient.upper) → (t.coefficient.lower ≤ℤ choose t) × (choose t ≤ℤ t.coefficient.upper)

module _ (us : List Fraction) where
  abbrev pub chosen : (Term → ℤ) → Term → ℚ
  chosen choose t = of (choose t) *ℚ value us t.monomial

  -- the lower end where its product is the lesser, else the upper end; and the other one
  abbrev lesser : Term → Bool
  lesser t = le_z ((lower_times us t).num *ℤ pos (upper_times us t).den) ((upper_times us t).num *ℤ pos (lower_times us t).den)

  abbrev least : Term → ℤ
  least t = cond (lesser t) t.coefficient.lower t.coefficient.upper

  abbrev greatest : Term → ℤ
  greatest t = cond (lesser t) t.coefficient.upper t.coefficient.lower

  either : (b : Bool) (x y l h : ℤ) → (l ≤ℤ x) × (x ≤ℤ h) → (l ≤ℤ y) × (y ≤ℤ h) → (l ≤ℤ cond b x y) × (cond b x y ≤ℤ h)
  either true x y l h f g = f
  either false x y l h f g = g

  least_choice : Choice least
  least_choice t o = either (lesser t) t.coefficient.lower t.coefficient.upper t.coefficient.lower t.coefficient.upper (omega (arith, ints)) (omega (arith, ints))

  greatest_choice : Choice greatest
  greatest_choice t o = either (lesser t) t.coefficient.upper t.coefficient.lower t.coefficient.lower t.coefficient.upper (omega (arith, ints)) (omega (arith, ints))

  end_is : (b : Bool) (x y : ℤ) (m : Monomial) → ⟦ cond b (whole x *ᶠ monomial_value us m) (whole y *ᶠ monomial_value us m) ⟧ ≡ of (cond b x y) *ℚ value us m
  end_is true x y m = sym (mul_is (whole x) (monomial_value us m)) ∙ ap (λ v. v *ℚ value us m) (sym (of_is x))
  end_is false x y m = sym (mul_is (whole y) (monomial_value us m)) ∙ ap (λ v. v *ℚ value us m) (sym (of_is y))

  lower_is : (ts : List Term) → ⟦ lower_value us ts ⟧ ≡ total ℚ_ring (chosen least) ts
  unfolding lower_value
  lower_is [] = sym (of_is (pos 0))
  lower_is (t ∷ ts) = sym (add_is (minᶠ (lower_times us t) (upper_times us t)) (lower_value us ts)) ∙ ap₂ ◌+ℚ◌ (end_is (lesser t) t.coefficient.lower t.coefficient.upper t.monomial) (lower_is ts)

  upper_is : (ts : List Term) → ⟦ upper_value us ts ⟧ ≡ total ℚ_ring (chosen greatest) ts
  unfolding upper_value
  upper_is [] = sym (of_is (pos 0))
  upper_is (t ∷ ts) = sym (add_is (maxᶠ (lower_times us t) (upper_times us t)) (upper_value us ts)) ∙ ap₂ ◌+ℚ◌ (end_is (lesser t) t.coefficient.upper t.coefficient.lower t.monomial) (upper_is ts)

  -- what holds the sum of every choice holds the value
  pub holds_by : (ts : List Term) (r : Interval) → ((choose : Term → ℤ) → Choice choose → total ℚ_ring (chosen choose) ts inside r) → Holds us ts r
  holds_by ts r f = record {
    low = (within_of {I = r} {v = lower_value us ts} (rw (lower_is ts) (f least least_choice))).low;
    high = (within_of {I = r} {v = upper_value us ts} (rw (upper_is ts) (f greatest greatest_choice))).high;
  }
