-- There is room for one term more, or the refusal; its leftover's reach can be added.
use Rattle.std.proofs.Common.{lit≤, sym, ◌∙◌}
use Rattle.interval.specs.Kind.{twice_limit}
use Rattle.taylor.proofs.Summing.{entered_some}
use Rattle.taylor.proofs.Entering.{open_joins, open_remainder, entered_places}
use Rattle.taylor.proofs.gathering.keep.Goals as goal

pub enter-requires-clause-joins : goal.enter-requires-clause-joins
enter-requires-clause-joins g c =
    open_joins c.args.model.now c.requires.form c.split.result.0 c.split.ensures.laws.coefficient

pub plus-model-requires : goal.plus-model-requires
plus-model-requires g c =
    open_remainder c.args.model.now c.requires.form twice_limit (lit≤ tt) c.args.pair.monomial c.split.result.1 c.reach.result c.split.ensures.laws.leftover c.reach.ensures.value

pub returns-clause-packs : goal.returns-clause-packs
returns-clause-packs g c =
    let room = c.in_ok-count.ensures.ok_part in
    entered_places c.args.model.now c.requires.form _ (record { count = c.in_ok-count.count; terms = c.enter.new.terms; remainder = c.plus-model.result })
    (sym room ∙ c.enter.ensures.value) (entered_some _ _ room c.enter.ensures.after)
