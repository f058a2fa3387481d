use Rattle.std.proofs.Common.{◌≡◌, ◌+◌, drop}
use Rattle.table.specs.Table.{place, has_key}
use Rattle.table.proofs.lookup.search.Given as goal

-- the key is sought among the entries ahead
abbrev pub invariant-loop-i : goal.invariant-loop-i
invariant-loop-i g l =
    let o = g.E.Key.TotalOrder.order in
    let key = g.E.Entry.keyed in
    (place o key l.entries l.key ≡ l.i + place o key (drop l.i l.entries) l.key)
    × (has_key o key l.entries l.key ≡ has_key o key (drop l.i l.entries) l.key)
