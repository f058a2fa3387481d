use Rattle.std.proofs.Common.{◌≡◌, Ok, rules, sym, ◌∙◌}
use Rattle.interval.specs.Scale.{per_unit}
use Rattle.interval.specs.Variable.{Sound}
use Rattle.sheet.proofs.Boxing.{boxing_more}
use Rattle.sheet.proofs.opening.variables.Goals as goal

pub loop-i-preserved : goal.loop-i-preserved
loop-i-preserved c =
    let v = c.in_ok-made.field-0 in
    let is : c.new.result ≡ Ok v = search rules in
    let sound : Sound (per_unit c.args.scale) v = rw is at c.new.ensures.laws in
    boxing_more (per_unit c.args.scale) c.args.ends.now c.loop-i.i-counter c.loop-i.made c.loop-i.invariant _ c.loop-i-test.true c.requires v (sym is ∙ c.new.ensures.value) sound
