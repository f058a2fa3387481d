use Rattle.std.proofs.Common.{sym, arith}
use Rattle.table.specs.View.{slice_of}
use Rattle.table.proofs.Enters.{one_more, comes_between, has_room, no_room}
use Rattle.table.proofs.Shifts.{shifted_up}
use Rattle.table.proofs.entries.Table.insert_at.Goals as goal

pub returns-then-self-clause-answer : goal.returns-then-self-clause-answer
returns-then-self-clause-answer g c =
    let t = c.args.self.now in
    no_room g.E.Key.TotalOrder.order g.E.Entry.keyed g.E.Entry.joined (slice_of t) t.count c.args.at c.args.entry t.room c.requires.room c.requires.place c.requires.missing c.if-self.true

pub returns-clause-answer : goal.returns-clause-answer
returns-clause-answer g c =
    let t = c.args.self.now in
    has_room g.E.Key.TotalOrder.order g.E.Entry.keyed g.E.Entry.joined (slice_of t) t.count c.args.at c.args.entry t.room c.requires.room c.requires.place c.requires.missing c.if-self.false

pub returns-clause-count : goal.returns-clause-count
returns-clause-count g c =
    let t = c.args.self.now in
    sym (one_more g.E.Key.TotalOrder.order g.E.Entry.keyed g.E.Entry.joined (slice_of t) t.count c.args.at c.args.entry t.room c.requires.room c.requires.place c.requires.missing)

pub returns-clause-after : goal.returns-clause-after
returns-clause-after g c =
    let t = c.args.self.now in
    let k = c.copy_within.ensures.by_index in
    comes_between g.E.Key.TotalOrder.order g.E.Entry.keyed g.E.Entry.joined (slice_of t) t.count c.args.at c.args.entry t.room c.requires.room c.requires.place c.requires.missing _
    (shifted_up (slice_of t) c.copy_within.new.self t.count c.args.at c.args.entry c.requires.room (omega arith) c.copy_within.ensures.len k.0 k.1 k.2)
