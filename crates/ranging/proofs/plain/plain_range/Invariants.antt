use Rattle.std.proofs.Common.{◌≡◌, ◌*◌, ◌^◌, drop}
use Rattle.interval.specs.Interval.{plus, Sized}
use Rattle.polynomial.specs.Method.{plain}
use Rattle.ranging.proofs.plain.plain_range.Given as goal

-- the range so far with what is left makes the whole; neither end has left 64 bits
abbrev pub invariant-loop-t : goal.invariant-loop-t
invariant-loop-t l = (plus l.range (plain (drop l.t-index l.terms)) ≡ plain l.terms) × Sized (2 ^ 48 * l.t-index) l.range
