use Rattle.std.proofs.Common.{sym, ◌∙◌}
use Rattle.interval.proofs.Orders.{compares}
use Rattle.interval.proofs.comparing.compare.Goals as goal

pub returns : goal.returns
returns c = record { value = c.partial_cmp.ensures ∙ compares c.args.a c.args.b (sym c.if-not-is_finite.ensures.value) (sym c.if-not-is_finite-2.ensures.value) }
