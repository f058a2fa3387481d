-- Each way out by the row at the place.
use Rattle.std.proofs.Common.{sym, ap, ◌∙◌, subst, get_or, arith}
use Rattle.std.specs.List.{AllByRecursion}
use Rattle.std.proofs.ByRecursion.{All-get_or}
use Rattle.polynomial.proofs.Coefficients.{unread}
use Rattle.taylor.specs.Model.{unpacked}
use Rattle.taylor.specs.Product.{row}
use Rattle.taylor.specs.Gathering.{tally, roomy, tally_of, Factor}
use Rattle.taylor.proofs.Results.{passed_on}
use Rattle.taylor.proofs.Operands.{kept, ready_factors}
use Rattle.taylor.proofs.Rows.{rows_few, rows_all, rows_again, rows_refused}
use Rattle.taylor.proofs.Multiplied.{pairs-few, counted_none, counted_all}
use Rattle.taylor.proofs.multiplying.Product.gathered.Goals as goal

pub take_row-requires : goal.take_row-requires
take_row-requires g c =
    let p = c.args.self.now in
    let a = kept p.first in
    let b = kept p.second in
    let first = c.used-p-items.ensures.value in
    let second = c.used.ensures.value in
    record {
      few = rw second (rows_few (g.K.Kind.meaning p.by.now.kind.now) p.by.now.order c.used-p-items.result.now (unpacked p.b.now).terms c.loop-p.p-index c.loop-p-test.true 0 (tally_of c.loop-p.tally) (rw first (omega (arith, pairs-few p.a.now p.b.now a.canonical.packs.fits b.canonical.packs.fits))) (omega (arith, c.loop-p.invariant.0)));
      factors = (All-get_or Factor _ c.loop-p.p-index unread c.loop-p-test.true (subst (AllByRecursion Factor) (sym first) (ready_factors a)), subst (AllByRecursion Factor) (sym second) (ready_factors b));
    }

pub returns-in_err-take_row : goal.returns-in_err-take_row
returns-in_err-take_row g c =
    let p = c.args.self.now in
    let k = g.K.Kind.meaning p.by.now.kind.now in
    let y = tally_of c.loop-p.tally in
    let ps = c.used-p-items.result.now in
    let i = c.loop-p.p-index in
    let full = c.in_err-take_row.ensures.took.value ∙ ap (λ us. roomy (tally k p.by.now.order y (row k.scale (get_or ps i unread) us)).model) c.used.ensures.value in
    rw (passed_on c.from_residual.result c.from_residual.ensures.1)
    (counted_none _ _ (rows_refused k p.by.now.order ps (unpacked p.b.now).terms i c.loop-p-test.true y _ _ full c.loop-p.invariant.1))

pub loop-p-preserved : goal.loop-p-preserved
loop-p-preserved g c =
    let p = c.args.self.now in
    let k = g.K.Kind.meaning p.by.now.kind.now in
    let y = tally_of c.loop-p.tally in
    let ps = c.used-p-items.result.now in
    let i = c.loop-p.p-index in
    let came = c.in_ok-take_row.ensures.took.after ∙ ap (λ us. tally k p.by.now.order y (row k.scale (get_or ps i unread) us)) c.used.ensures.value in
    let more = rows_again k p.by.now.order ps (unpacked p.b.now).terms i c.loop-p-test.true 0 y (tally_of c.take_row.new.self) _ came (omega (arith, c.loop-p.invariant.0)) c.loop-p.invariant.1 in
    (omega (arith, more.0), more.1)

pub returns : goal.returns
returns g c =
    let p = c.args.self.now in
    let ends = rows_all (g.K.Kind.meaning p.by.now.kind.now) p.by.now.order c.used-p-items.result.now (unpacked p.b.now).terms c.loop-p.p-index c.loop-p-test.false (tally_of c.loop-p.tally) in
    counted_all c.loop-p.tally (sym ends ∙ c.loop-p.invariant.1)
