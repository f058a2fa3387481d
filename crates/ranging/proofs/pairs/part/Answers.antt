use Rattle.std.proofs.Common.{sym, ap, ◌∙◌, subst, arith}
use Rattle.std.proofs.lemmas.Int.{ints}
use Rattle.interval.specs.Interval.{Fits}
use Rattle.polynomial.proofs.Coefficients.{coefficient-fits}
use Rattle.polynomial.proofs.Pairs.{root-linear}
use Rattle.table.specs.Monomial.{degree}
use Rattle.ranging.proofs.pairs.part.Goals as goal

pub is_paired-requires-then-all_even : goal.is_paired-requires-then-all_even
is_paired-requires-then-all_even c = ap degree c.square_root.ensures.value ∙ root-linear c.args.t.monomial (sym c.degree.ensures.value ∙ c.in-2.is) (sym c.all_even.ensures.value ∙ c.if-all_even.true)

pub invariant_of-range : goal.invariant_of-range
invariant_of-range c =
    let f = subst Fits (sym c.coefficient_at.ensures.value) (coefficient-fits c.args.polynomial.terms.now _ c.args.polynomial.sound) in
    record { square_fits = omega (arith, ints); linear_fits = omega (arith, ints) }
