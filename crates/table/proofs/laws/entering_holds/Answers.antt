use Rattle.table.proofs.Ascents.{entered-ascends}
use Rattle.table.proofs.Growth.{length-entered}
use Rattle.table.proofs.Readings.{joins_own, leaves_others}
use Rattle.table.proofs.laws.entering_holds.Goals as goal

pub returns : goal.returns
returns g c =
    let o = g.E.Key.TotalOrder.order in
    let key = g.E.Entry.keyed in
    let join = g.E.Entry.joined in
    let keeps = g.met.E.Entry.keeps in
    record { laws = (entered-ascends o key join keeps, joins_own o key join keeps, leaves_others o key join keeps, length-entered o key join) }
