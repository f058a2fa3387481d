use Rattle.std.proofs.Common.{◌≡◌, ◌*◌, ◌^◌, drop}
use Rattle.interval.specs.Interval.{plus, Sized}
use Rattle.polynomial.specs.Quadratic.{parts}
use Rattle.ranging.proofs.quadratic.quadratic_range.Given as goal

-- the range so far with what is left makes the whole; neither end has left 64 bits
abbrev pub invariant-loop-t : goal.invariant-loop-t
invariant-loop-t l =
    let ts = l.fn.polynomial.terms.now in
    (plus l.range (parts ts (drop l.t-index ts)) ≡ parts ts ts) × Sized (2 ^ 48 * l.t-index) l.range
