use Rattle.taylor.proofs.Ranges.{held_summable}
use Rattle.taylor.proofs.model.ModelRecord.range.Goals as goal

pub plus-requires : goal.plus-requires
plus-requires g c = held_summable c.requires (g.M.Ranging.meaning c.args.method.now) c.polynomial_range.ensures.value
