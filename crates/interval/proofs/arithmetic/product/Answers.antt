use Rattle.std.proofs.Common.{◌≡◌, ◌*ℤ◌, arith, w64, to_z, of_z}
use borrow.Author.Differences.{ints}
use Rattle.std.proofs.lemmas.Int.{to_z-of_z}
use Rattle.interval.proofs.Sizes.{bounded_product}
use Rattle.interval.proofs.arithmetic.product.Goals as goal

pub overflow_mul-result : goal.overflow_mul-result
overflow_mul-result c = let b = bounded_product c.requires.0 c.requires.1 in let f = c.ranges.a in let g = c.ranges.b in rw (to_z-of_z w64 c.args.a f, to_z-of_z w64 c.args.b g) (omega (arith, ints))

pub returns : goal.returns
returns c =
    let b = bounded_product c.requires.0 c.requires.1 in
    let f = c.ranges.a in
    let g = c.ranges.b in
    let e : to_z w64 (of_z w64 (to_z w64 (of_z w64 c.args.a) *ℤ to_z w64 (of_z w64 c.args.b))) ≡ c.args.a *ℤ c.args.b =
    rw (to_z-of_z w64 c.args.a f, to_z-of_z w64 c.args.b g) (omega (arith, ints)) in
    record { value = e; bound = record { low = omega (arith, ints); high = omega (arith, ints) } }
