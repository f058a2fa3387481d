-- A sound line is in bounds, and one of points is exact, since what a tested model carries it bounds. Assumes nothing.
use Rattle.std.proofs.Common.{◌≡◌, ℕ, List, pos, Some, Option, ap}
use Rattle.std.specs.Option.{option_map}
use Rattle.rational.specs.Fraction.{Fraction, whole, ◌*ᶠ◌}
use Rattle.interval.specs.Kind.{KindMeaning}
use Rattle.polynomial.specs.Value.{Units}
use Rattle.polynomial.specs.Method.{MethodMeaning}
use Rattle.taylor.specs.Product.{Worked}
use Rattle.taylor.specs.Selection.{marks}
use Rattle.taylor.specs.Exactness.{Pointed}
use Rattle.taylor.proofs.Enclosures.{arithmetic_encloses}
use Rattle.taylor.proofs.ExactValues.{points-exact}
use Rattle.taylor.proofs.Keeps.{forms_kept}
use Rattle.formula.specs.WorkLaws.{InBounds, ExactModel, SoundLine}

module _ (k : KindMeaning) (m : MethodMeaning) (us : List Fraction) (w : Worked) (x : Option Fraction) (L : SoundLine k m us w x) where
  -- its exact value in marks
  pub in_marks : option_map (λ y. y *ᶠ whole (pos k.scale)) x ≡ Some (marks k.scale L.value)
  in_marks = ap (option_map (λ y. y *ᶠ whole (pos k.scale))) L.exact

  -- that operations have an order does not matter to what a model carries
  pub sound_bounds : Units us → InBounds m us w.model (marks k.scale L.value)
  sound_bounds U =
      let order : ℕ = 1 in
      let E = (arithmetic_encloses k m order us U).0 in
      let v = marks k.scale L.value in
      record {
        enclosed = E.encloses w.model v L.carries;
        in_range = E.ranges m w.model v U ((forms_kept k m order).polynomials w.model L.tested) L.carries;
      }

  pub sound_exact : Pointed w.model → ExactModel us w.model (marks k.scale L.value)
  sound_exact P = record { nothing_left = P.remainder; value = points-exact us w.model (marks k.scale L.value) P L.carries }
