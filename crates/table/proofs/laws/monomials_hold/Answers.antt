use Rattle.table.proofs.Monomials.{degree-product, even-square, root-square, square-root}
use Rattle.table.proofs.laws.monomials_hold.Goals as goal

pub returns : goal.returns
returns c = record { laws = (degree-product, λ m. (even-square m, root-square m), square-root) }
