use Rattle.std.proofs.Common.{◌≡◌, ◌++◌, map, take, drop}
use Rattle.taylor.specs.Arithmetic.{opposite}
use Rattle.taylor.proofs.sums.negated.Given as goal

abbrev pub invariant-loop-t : goal.invariant-loop-t
invariant-loop-t l = let ts = take l.a.count l.a.terms in l.t-items ≡ map opposite (take l.t-index ts) ++ drop l.t-index ts
