use Rattle.table.proofs.Ascents.{once}
use Rattle.table.proofs.Readings.{reads}
use Rattle.table.proofs.Splits.{splits, tells}
use Rattle.table.proofs.laws.searches_hold.Goals as goal

pub returns : goal.returns
returns g c =
    let o = g.E.Key.TotalOrder.order in
    let key = g.E.Entry.keyed in
    record { laws = (splits o key, tells o key, reads o key, once o key) }
