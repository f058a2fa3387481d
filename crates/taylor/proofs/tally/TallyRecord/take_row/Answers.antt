-- Each way out by the pair at the place, and what is left of the row brings the tally to the same end.
use Rattle.std.proofs.Common.{sym, ◌∙◌}
use Rattle.taylor.specs.Product.{row}
use Rattle.taylor.specs.Gathering.{tally_of}
use Rattle.taylor.proofs.Results.{passed_on}
use Rattle.taylor.proofs.Tallying.{tallied_kept}
use Rattle.taylor.proofs.Rows.{pair_ends, row_all, row-refused, took_all, took_none}
use Rattle.taylor.proofs.tally.TallyRecord.take_row.Goals as goal

pub take-requires-clause-ends : goal.take-requires-clause-ends
take-requires-clause-ends g c =
    let k = g.K.Kind.meaning c.args.by.now.kind.now in
    pair_ends k c.args.by.now.order c.args.p c.args.qs.now c.loop-q.q-index c.loop-q-test.true c.pair.result c.pair.ensures.value

pub returns-in_err-take : goal.returns-in_err-take
returns-in_err-take g c =
    let k = g.K.Kind.meaning c.args.by.now.kind.now in
    let p = passed_on c.from_residual.result c.from_residual.ensures.1 in
    let r = row-refused k c.args.by.now.order c.args.p c.args.qs.now c.loop-q.q-index c.loop-q-test.true c.pair.result c.pair.ensures.value
    (tally_of c.loop-q.self) _ c.in_err-take.field-0.0 c.in_err-take.ensures.took.value c.loop-q.invariant.1 in
    rw p (record { took = took_none k c.args.by.now.order c.args.self.now c.take.new.self (row k.scale c.args.p c.args.qs.now) c.in_err-take.field-0.0 r })

pub returns : goal.returns
returns g c =
    let k = g.K.Kind.meaning c.args.by.now.kind.now in
    let inv = c.loop-q.invariant in
    let e = sym (row_all k c.args.by.now.order c.args.p c.args.qs.now c.loop-q.q-index c.loop-q-test.false (tally_of c.loop-q.self)) ∙ inv.1 in
    record { took = took_all k c.args.by.now.order c.args.self.now c.loop-q.self (row k.scale c.args.p c.args.qs.now) e (tallied_kept c.loop-q.self.form).packs.fits }
