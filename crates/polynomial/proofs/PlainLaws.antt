-- The plain range keeps the laws of a method: each reach holds its term's value, whichever end is chosen.
-- Assumes nothing.
use Rattle.std.proofs.Common.{List, [], ◌∷◌, ℤ, pos, arith}
use borrow.Author.Differences.{ints}
use Rattle.std.specs.List.{AllByRecursion}
use Rattle.rational.specs.Fraction.{Fraction}
use Rattle.rational.proofs.Rational.{of, ℚ_ring}
use Rattle.rational.proofs.Order.{≤ℚ_refl, of_mono}
use Rattle.interval.proofs.Enclosure.{◌inside◌, inside-sum}
use Rattle.polynomial.specs.declared.term.Term.{Term}
use Rattle.polynomial.specs.Reach.{reach}
use Rattle.polynomial.specs.Value.{Units}
use Rattle.polynomial.specs.Method.{FitTerm, plain}
use Rattle.polynomial.specs.Laws.{PlainLawful}
use Rattle.polynomial.proofs.Reaches.{reach-holds}
use Rattle.polynomial.proofs.Totals.{total}
use Rattle.polynomial.proofs.Choices.{Choice, chosen, holds_by}

module _ (us : List Fraction) (U : Units us) (choose : Term → ℤ) (choice : Choice choose) where
  pub reach-chosen : (t : Term) → FitTerm t → chosen us choose t inside reach t.monomial t.coefficient
  reach-chosen t f = let h = choice t f.fit.order in reach-holds us U t.monomial (record { low = of_mono h.0; high = of_mono h.1 })

  plain-inside : (ts : List Term) → AllByRecursion FitTerm ts → total ℚ_ring (chosen us choose) ts inside plain ts
  unfolding plain
  plain-inside [] f = record { low = ≤ℚ_refl (of (pos 0)); high = ≤ℚ_refl (of (pos 0)) }
  plain-inside (t ∷ ts) f = inside-sum (reach-chosen t f.0) (plain-inside ts f.1)

pub plain_lawful : PlainLawful
plain_lawful ts p = record {
  within = record { low = omega (arith, ints); high = omega (arith, ints) };
  holds = λ us U. holds_by us ts (plain ts) (λ choose choice. plain-inside us U choose choice ts p.fit);
}
