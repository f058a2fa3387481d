-- The range of a model's polynomial can be asked for, and added to the remainder. Assumes nothing.
use Rattle.std.proofs.Common.{◌≡◌, ℕ, true, ◌+◌, ◌*◌, List, [], ◌∷◌, length, suc-mul, arith}
use Rattle.std.specs.List.{AllByRecursion}
use Rattle.std.proofs.ByRecursion.{All-weaker}
use Rattle.std.proofs.lemmas.Int.{ints}
use Rattle.interval.specs.declared.marks.Interval.{Interval}
use Rattle.interval.specs.Interval.{limit, Sized, Summable}
use Rattle.interval.proofs.Sizes.{sized_zero, sized_weaken, sized-plus}
use Rattle.polynomial.specs.declared.term.Term.{Term}
use Rattle.polynomial.specs.Terms.{all_fit}
use Rattle.polynomial.specs.Method.{MethodMeaning, Polynomial, FitTerm, plain}
use Rattle.polynomial.proofs.Reaches.{sized-reach}
use Rattle.taylor.specs.declared.model.ModelRecord.{ModelRecord}
use Rattle.taylor.specs.Model.{unpacked}
use Rattle.taylor.specs.Keeping.{room}
use Rattle.taylor.specs.Record.{Held}
use Rattle.taylor.proofs.Bounds.{range-order}
use Rattle.taylor.proofs.Tests.{normal_polynomial, coefficients-fit}

-- the plain range has at most so many marks for each term
plain-sized : (n : ℕ) (ts : List Term) → AllByRecursion (λ t. Sized n t.coefficient) ts → Sized (length ts * n) (plain ts)
unfolding plain
plain-sized n [] A = sized_zero (0 * n)
plain-sized n (t ∷ ts) A =
    sized_weaken {m = n + length ts * n} (omega (arith, suc-mul (length ts) n)) (sized-plus (sized-reach t.monomial A.0) (plain-sized n ts A.1))

-- and every method's range lies within it
pub range-summable : (m : MethodMeaning) (ts : List Term) → Polynomial ts → Summable (m.range ts)
range-summable m ts P =
    let within = (m.laws ts P).within in
    let order = range-order m ts P in
    let few = P.few in
    let small : Sized (40 * limit) (plain ts) = sized_weaken {m = length ts * limit} (omega arith) (plain-sized limit ts (All-weaker FitTerm (λ t. Sized limit t.coefficient) (λ t f. f.fit) ts P.fit)) in
    record { low = omega (arith, ints); order = order; high = omega (arith, ints) }

module _ {r : ModelRecord} (h : Held limit r) where
  pub held_polynomial : (m : MethodMeaning) → Polynomial (unpacked r).terms
  held_polynomial m = normal_polynomial m (unpacked r) h.canonical.normal h.sized.coefficients

  pub held_summable : (m : MethodMeaning) {i : Interval} → i ≡ m.range (unpacked r).terms → Summable i × Summable r.remainder
  held_summable m e = (rw e (range-summable m _ (held_polynomial m)), sized_weaken (omega arith) h.sized.remainder)

-- a model that is being tested: where its coefficients fit, a method may be asked
module _ (m : MethodMeaning) {r : ModelRecord} (h : Held room r) (a : all_fit (unpacked r).terms ≡ true) where
  pub fit_polynomial : Polynomial (unpacked r).terms
  fit_polynomial =
      let N = h.canonical.normal in
      normal_polynomial m (unpacked r) N (coefficients-fit m (unpacked r).terms N.each a)

  pub range_adds : {i : Interval} → i ≡ m.range (unpacked r).terms → Summable i × Summable r.remainder
  range_adds e = (rw e (range-summable m _ fit_polynomial), sized_weaken (omega arith) h.sized.remainder)
