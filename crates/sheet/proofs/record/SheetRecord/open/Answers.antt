use Rattle.std.proofs.Common.{rules}
use Rattle.interval.specs.Scale.{per_unit}
use Rattle.sheet.proofs.Openings.{opens_no_order, opens_no_box, opens_no_allowance, opens-refused, opens-value, opens_shape}
use Rattle.sheet.proofs.record.SheetRecord.open.Goals as goal

pub returns-then-not-contains : goal.returns-then-not-contains
returns-then-not-contains g c = record { value = opens_no_order _ _ _ _ (search rules) _ c.refuse.ensures.value }

pub returns-then-not-contains-2 : goal.returns-then-not-contains-2
returns-then-not-contains-2 g c = record { value = opens_no_box _ _ _ _ (search rules) (search rules) _ c.refuse-then-not-contains-2.ensures.value }

pub returns-then-not-contains-3 : goal.returns-then-not-contains-3
returns-then-not-contains-3 g c = record { value = opens_no_allowance _ _ _ _ (search rules) (search rules) (search rules) _ c.refuse-then-not-contains-3.ensures.value }

pub returns-in_err-made : goal.returns-in_err-made
returns-in_err-made g c = record {
  value = opens-refused _ _ _ _ (search rules) (search rules) (search rules) (per_unit c.scale.result) c.scale.ensures.value
      c.in_err-made.field-0.0 c.in_err-made.ensures.value c.from_residual.result c.from_residual.ensures.1;
}

pub returns : goal.returns
returns g c = record {
  value = opens-value _ _ _ _ (search rules) (search rules) (search rules) (per_unit c.scale.result) c.scale.ensures.value c.in_ok-made.made c.in_ok-made.ensures.value;
}

pub invariant_of-result : goal.invariant_of-result
invariant_of-result g c =
    let made = c.in_ok-made.ensures in
    rw c.zero.ensures.value (opens_shape (g.K.Kind.meaning c.args.kind.now) _ _ _ (search rules) (search rules) (search rules) (per_unit c.scale.result) c.scale.ensures.value
    c.in_ok-made.made made.value made.fit)
