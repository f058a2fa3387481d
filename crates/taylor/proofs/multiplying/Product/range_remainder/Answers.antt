use Rattle.taylor.proofs.Operands.{kept, ready_polynomial, ranges_times}
use Rattle.taylor.proofs.multiplying.Product.range_remainder.Goals as goal

pub polynomial_range-range-requires-clause-polynomial : goal.polynomial_range-range-requires-clause-polynomial
polynomial_range-range-requires-clause-polynomial g c = ready_polynomial (kept c.args.self.now.first)

pub times-requires : goal.times-requires
times-requires g c =
    let m = g.M.Ranging.meaning c.args.self.now.by.now.method.now in
    ranges_times m (kept c.args.self.now.first) (kept c.args.self.now.second) c.polynomial_range-range.ensures.value
