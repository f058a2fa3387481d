use Rattle.std.proofs.Common.{take}
use Rattle.polynomial.specs.Reach.{joins}
use Rattle.taylor.proofs.Summing.{Adding}
use Rattle.taylor.proofs.sums.sum.Given as goal

abbrev pub invariant-loop-t : goal.invariant-loop-t
invariant-loop-t l = Adding l.t-items (joins (take l.a.count l.a.terms) (take l.b.count l.b.terms)) l.t-index l.terms l.count
