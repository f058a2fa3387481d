use Rattle.interval.specs.Scale.{per_unit}
use Rattle.sheet.proofs.Boxing.{Boxing}
use Rattle.sheet.proofs.opening.variables.Given as goal

abbrev pub invariant-loop-i : goal.invariant-loop-i
invariant-loop-i l = Boxing (per_unit l.scale) l.ends l.i-counter l.made
