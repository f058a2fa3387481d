use Rattle.std.proofs.Common.{sym, ◌∙◌}
use Rattle.taylor.specs.Model.{unpacked}
use Rattle.taylor.proofs.Results.{passed_on}
use Rattle.taylor.proofs.Summing.{entered_some, entered_none, adding_more, adding_full, adding_done, joinable, sum-refused, sum_comes}
use Rattle.taylor.proofs.sums.sum.Goals as goal

pub enter-requires-clause-joins : goal.enter-requires-clause-joins
enter-requires-clause-joins c = joinable _ _ _ _ _ c.loop-t.invariant _ c.loop-t-test.true

pub returns-in_err-count : goal.returns-in_err-count
returns-in_err-count c =
    let full = c.in_err-count.ensures in
    rw (passed_on c.from_residual.result c.from_residual.ensures.1, entered_none full.ok_part full.value)
    (record { value = sum-refused _ _ (adding_full _ _ _ _ _ c.loop-t.invariant _ c.loop-t-test.true (sym full.ok_part ∙ c.enter.ensures.value)) })

pub loop-t-preserved : goal.loop-t-preserved
loop-t-preserved c =
    let room = c.in_ok-count.ensures.ok_part in
    adding_more _ _ _ _ _ c.loop-t.invariant _ c.loop-t-test.true _ _ (sym room ∙ c.enter.ensures.value) (entered_some _ _ room c.enter.ensures.after)

pub returns : goal.returns
returns c = record { value = sum_comes (unpacked c.args.a.now) (unpacked c.args.b.now) _ _ (adding_done _ _ _ _ _ c.loop-t.invariant c.loop-t-test.false) _ _ _ c.drop_zeros-count.ensures.value c.drop_zeros-count.ensures.after c.plus.ensures.value }
