-- Up to the limit the hull is computed exactly; past it, no hull fits.
use Rattle.std.proofs.Common.{ap, ◌∙◌}
use lib.Ieee.{to_signed}
use Rattle.interval.proofs.Marked.{computed, too_large}
use Rattle.interval.proofs.marks.Interval.hull.Goals as goal

pub returns-then-abs : goal.returns-then-abs
returns-then-abs c =
    let lo = c.saturating_f64_to_i64-lower in
    let hi = c.saturating_f64_to_i64-upper in
    record {
      value = c.fitted.ensures.value
          ∙ computed c.args.x c.abs.result c.args.scale.bits c.marks.result lo.result hi.result c.args.scale.small c.marks.ensures.value c.abs.ensures.value c.abs.type_inv c.if-abs.true
          (lo.ensures ∙ ap (to_signed 63) c.floor.ensures) lo.type_inv (hi.ensures ∙ ap (to_signed 63) c.ceil.ensures) hi.type_inv;
    }

pub returns-else-abs : goal.returns-else-abs
returns-else-abs c = record { value = too_large c.args.x c.abs.result c.args.scale.bits c.abs.ensures.value c.if-abs.false }
