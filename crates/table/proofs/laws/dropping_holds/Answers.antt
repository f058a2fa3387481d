use Rattle.table.proofs.Ascents.{drops_ascend}
use Rattle.table.proofs.Readings.{drops_read}
use Rattle.table.proofs.laws.dropping_holds.Goals as goal

pub returns : goal.returns
returns g c =
    let o = g.E.Key.TotalOrder.order in
    let key = g.E.Entry.keyed in
    record { laws = (drops_ascend o key, drops_read o key) }
