use Rattle.std.proofs.Common.{arith, length-take}
use Rattle.polynomial.proofs.Coefficients.{dropped-length}
use Rattle.batch.specs.DraftTerms.{terms_of}
use Rattle.batch.proofs.Reductions.{dropped_polynomial}
use Rattle.batch.proofs.draft.Draft.range.Goals as goal

pub invariant_of-range : goal.invariant_of-range
invariant_of-range g c =
    let old = c.args.self.now in
    record { sound = rw (c.as_slice.ensures.value, c.reduced.ensures.value) (dropped_polynomial (terms_of old) (omega (arith, dropped-length (terms_of old), length-take old.count old.terms, old.few)) old.sound) }
