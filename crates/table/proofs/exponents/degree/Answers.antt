use Rattle.std.proofs.Common.{◌≡◌, ℕ, length, rules, arith}
use Rattle.std.proofs.iter.runs.Sources.{sums}
use Rattle.std.proofs.lemmas.List.Sums.{sum_by-le}
use Rattle.table.specs.Monomial.{degree}
use Rattle.table.proofs.exponents.degree.Goals as goal

pub sum-requires-clause-fits : goal.sum-requires-clause-fits
sum-requires-clause-fits c = search (rules, sums)

-- six exponents of a byte
pub returns-clause-bound : goal.returns-clause-bound
returns-clause-bound c =
    let id : ℕ → ℕ = λ x. x in
    let v : c.sum.result ≡ degree c.args.monomial = search (rules, sums) in
    let six : length c.args.monomial ≡ 6 = omega arith in
    omega (arith, v, six, sum_by-le id 255 c.args.monomial (λ k d h. search rules))
