use Rattle.taylor.proofs.Raised.{alone-passed}
use Rattle.taylor.proofs.powers.alone.Goals as goal

pub returns : goal.returns
returns g c = record { value = alone-passed (g.M.Ranging.meaning c.args.method.now) c.args.model.now c.requires c.in_ok-test.ensures.value }
