use Rattle.table.proofs.Enters.{joined_after, joined_count, joined_room}
use Rattle.table.proofs.entries.Table.enter.Goals as goal

pub returns-in-Ok-clause-answer : goal.returns-in-Ok-clause-answer
returns-in-Ok-clause-answer g c =
    joined_room g.E.Key.TotalOrder.order g.E.Entry.keyed g.E.Entry.joined c.args.self.now.entries.now c.args.self.now.count c.in-Ok.at c.index-self-at.result c.args.entry c.join.result c.key.result c.args.self.now.room c.in-Ok.ensures.there c.key.ensures.value c.in-Ok.ensures.value c.index-self-at.is c.join.ensures.value

pub returns-in-Ok-clause-after : goal.returns-in-Ok-clause-after
returns-in-Ok-clause-after g c =
    joined_after g.E.Key.TotalOrder.order g.E.Entry.keyed g.E.Entry.joined c.args.self.now.entries.now c.args.self.now.count c.in-Ok.at c.index-self-at.result c.args.entry c.join.result c.key.result c.args.self.now.room c.in-Ok.ensures.there c.key.ensures.value c.in-Ok.ensures.value c.index-self-at.is c.join.ensures.value

pub returns-in-Ok-clause-count : goal.returns-in-Ok-clause-count
returns-in-Ok-clause-count g c =
    joined_count g.E.Key.TotalOrder.order g.E.Entry.keyed g.E.Entry.joined c.args.self.now.entries.now c.args.self.now.count c.in-Ok.at c.index-self-at.result c.args.entry c.join.result c.key.result c.args.self.now.room c.in-Ok.ensures.there c.key.ensures.value c.in-Ok.ensures.value c.index-self-at.is c.join.ensures.value
