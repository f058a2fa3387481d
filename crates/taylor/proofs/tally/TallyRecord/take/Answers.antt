-- Kept or cut: the pair, held, leaves the tally of specs/ and its bounds.
use Rattle.std.proofs.Common.{arith, rules}
use Rattle.taylor.proofs.Tallying.{hold_fits, tallied_kept, tallied_open, tallied_keep, tallied_cut}
use Rattle.taylor.proofs.tally.TallyRecord.take.Goals as goal

pub keep-requires-clause-form : goal.keep-requires-clause-form
keep-requires-clause-form g c = tallied_open (tallied_kept c.args.self.now.form)

pub cut-requires-clause-form : goal.cut-requires-clause-form
cut-requires-clause-form g c = tallied_open (tallied_kept c.args.self.now.form)

pub invariant_of-self : goal.invariant_of-self
invariant_of-self g c =
    let T = tallied_kept c.args.self.now.form in
    let f = hold_fits c.requires.ends c.hold-pair.ensures.value in
    let e = c.keep.ensures in
    record { form = ∣ tallied_keep T c.requires.few (g.K.Kind.meaning c.args.by.now.kind.now) c.hold-pair.result f c.keep.new.model c.keep.result c.args.by.now.low (omega arith) (search rules) e.after e.packs e.refused ∣₁ }

pub invariant_of-self-2 : goal.invariant_of-self-2
invariant_of-self-2 g c =
    let T = tallied_kept c.args.self.now.form in
    let f = hold_fits c.requires.ends c.hold-pair.ensures.value in
    record { form = ∣ tallied_cut T c.requires.few (g.K.Kind.meaning c.args.by.now.kind.now) c.hold-pair.result f c.cut.new.model c.cut.ensures.after ∣₁ }
