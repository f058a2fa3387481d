use Rattle.batch.proofs.Reductions.{dropped_front, dropped-canonical}
use Rattle.batch.specs.DraftTerms.{terms_of}
use Rattle.batch.proofs.draft.Draft.reduced.Goals as goal

pub invariant_of-result : goal.invariant_of-result
invariant_of-result c =
    let old = c.args.self.now in
    let f = dropped_front old.terms _ old.count _ old.long old.few c.drop_zeros-count.ensures.value c.drop_zeros-count.ensures.after in
    record { long = f.long; few = f.few; sound = rw f.front (dropped-canonical (terms_of old) old.sound) }
