use Rattle.std.proofs.Common.{sym, ap, ◌∙◌}
use Rattle.taylor.specs.Model.{all_fit}
use Rattle.taylor.proofs.Ranges.{fit_polynomial, range_adds}
use Rattle.taylor.proofs.testing.test.Goals as goal

pub polynomial_range-range-requires-clause-polynomial : goal.polynomial_range-range-requires-clause-polynomial
polynomial_range-range-requires-clause-polynomial g c =
    fit_polynomial (g.M.Ranging.meaning c.args.method.now) c.requires (ap all_fit (sym c.used.ensures.value) ∙ sym c.if-not-all_fit.ensures.value)

pub plus-requires : goal.plus-requires
plus-requires g c =
    range_adds (g.M.Ranging.meaning c.args.method.now) c.requires (ap all_fit (sym c.used.ensures.value) ∙ sym c.if-not-all_fit.ensures.value) c.polynomial_range-range.ensures.value
