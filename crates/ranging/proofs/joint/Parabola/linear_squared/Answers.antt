use Rattle.std.proofs.Common.{arith, w64, SFits, rules}
use Rattle.std.proofs.lemmas.Int.{ints, to_z-of_z}
use Rattle.interval.proofs.Sizes.{bounded_product}
use Rattle.ranging.proofs.joint.Parabola.linear_squared.Goals as goal

pub overflow_mul-result : goal.overflow_mul-result
overflow_mul-result c =
    let p = bounded_product c.args.self.linear_fits c.args.self.linear_fits in
    let f : SFits w64 c.args.self.linear = search rules in
    rw (to_z-of_z w64 c.args.self.linear f) (omega (arith, ints))

pub returns : goal.returns
returns c =
    let p = bounded_product c.args.self.linear_fits c.args.self.linear_fits in
    let f : SFits w64 c.args.self.linear = search rules in
    rw (to_z-of_z w64 c.args.self.linear f) (record { value = omega (arith, ints); bound = record { low = omega (arith, ints); high = omega (arith, ints) } })
