use Rattle.std.proofs.Common.{sym, ◌∙◌, take, rules}
use Rattle.polynomial.specs.Reach.{with_term}
use Rattle.batch.proofs.Canonical.{fitted, joinable}
use Rattle.batch.proofs.Fronts.{Front, fronts, unfit, taken, sound}
use Rattle.batch.proofs.draft.Draft.enter.Goals as goal
use Rattle.batch.proofs.draft.Draft.enter.Goals.{In_ok-count}

pub enter-requires-clause-joins : goal.enter-requires-clause-joins
enter-requires-clause-joins c = joinable _ c.args.term (fitted _ c.args.self.now.sound) c.requires

-- the draft's places, once the term is entered
front : (c : In_ok-count) → Front (with_term (take c.args.self.now.count c.args.self.now.terms) c.args.term) c.enter.new.terms c.in_ok-count.count
front c = fronts _ _ _ _ _ c.args.self.now.long c.in_ok-count.ensures.ok_part c.enter.ensures.value c.enter.ensures.after

pub returns-then-not-all_fit-clause-value : goal.returns-then-not-all_fit-clause-value
returns-then-not-all_fit-clause-value c = unfit _ c.args.term _ _ (front (goal.at.returns-then-not-all_fit-clause-value c).In_ok-count) (sym c.all_fit.ensures.value ∙ c.if-not-all_fit.true)

pub invariant_of-self : goal.invariant_of-self
invariant_of-self c =
    let f = front (goal.at.invariant_of-self c).In_ok-count in
    record { long = f.long; few = f.few; sound = sound _ c.args.term _ _ f c.args.self.now.sound (record { six = search rules; fit = c.requires }) (sym c.all_fit.ensures.value ∙ c.if-not-all_fit.false) }

pub returns : goal.returns
returns c =
    let f = front (goal.at.returns c).In_ok-count in
    record { value = taken _ c.args.term _ _ f (sym c.all_fit.ensures.value ∙ c.if-not-all_fit.false); after = f.front }
