-- What an interval reaches when it is multiplied by a number from -1 to 1, or from 0 to 1. Assumes nothing.
use Rattle.std.proofs.Common.{ℤ, pos, negsuc, arith}
use borrow.Author.Differences.{ints}
use Rattle.std.proofs.lemmas.Int.{clamps}
use Rattle.rational.proofs.Solver.{lit, ◌⊗◌, ⊖◌, ◌⊝◌}
use Rattle.rational.proofs.Rational.{ℚ, ◌*ℚ◌, negℚ, of, of_neg, *ℚ_comm, ◌≤ℚ◌}
use Rattle.rational.proofs.Certificate.{◌≼◌∵◌, cert2}
use Rattle.rational.proofs.Order.{≤ℚ_trans, of_mono, slide_low, slide_high}
use Rattle.rational.proofs.Powers.{Unital, Partial}
use Rattle.interval.specs.declared.marks.Interval.{Interval}
use Rattle.interval.specs.Interval.{magnitude, even_reach, full_reach}
use Rattle.interval.proofs.Enclosure.{◌inside◌}

-- ---- what an interval reaches
pub reach-full : {I : Interval} {v m : ℚ} → v inside I → Unital m → v *ℚ m inside full_reach I
reach-full {I} {v} {m} V U =
    let M = of (magnitude I) in
    let p : v ≤ℚ M = ≤ℚ_trans V.high (of_mono (omega (arith, ints, clamps))) in
    let q : negℚ M ≤ℚ v = ≤ℚ_trans (rw (← of_neg (magnitude I)) (of_mono (omega (arith, ints, clamps)))) V.low in
    rw (*ℚ_comm v m) (record {
      low = rw (of_neg (magnitude I)) (slide_low v U.low U.high (cert2 (λ v M. ⊖ M ≼ lit (negsuc 0) ⊗ v ∵ M ⊝ v) tt v M p.diff) (cert2 (λ v M. ⊖ M ≼ lit (pos 1) ⊗ v ∵ v ⊝ ⊖ M) tt v M q.diff));
      high = slide_high v U.low U.high (cert2 (λ v M. lit (negsuc 0) ⊗ v ≼ M ∵ v ⊝ ⊖ M) tt v M q.diff) (cert2 (λ v M. lit (pos 1) ⊗ v ≼ M ∵ M ⊝ v) tt v M p.diff);
    })

pub reach-even : {I : Interval} {v m : ℚ} → v inside I → Partial m → v *ℚ m inside even_reach I
reach-even {I} {v} {m} V U =
    let a : ℤ = (even_reach I).lower in
    let b : ℤ = (even_reach I).upper in
    let a0 : of a ≤ℚ of (pos 0) = of_mono (omega (arith, ints, clamps)) in
    let b0 : of (pos 0) ≤ℚ of b = of_mono (omega (arith, ints, clamps)) in
    let p : v ≤ℚ of b = ≤ℚ_trans V.high (of_mono (omega (arith, ints, clamps))) in
    let q : of a ≤ℚ v = ≤ℚ_trans (of_mono (omega (arith, ints, clamps))) V.low in
    rw (*ℚ_comm v m) (record {
      low = slide_low v U.low U.high (cert2 (λ v a. a ≼ lit (pos 0) ⊗ v ∵ lit (pos 0) ⊝ a) tt v (of a) a0.diff) (cert2 (λ v a. a ≼ lit (pos 1) ⊗ v ∵ v ⊝ a) tt v (of a) q.diff);
      high = slide_high v U.low U.high (cert2 (λ v b. lit (pos 0) ⊗ v ≼ b ∵ b ⊝ lit (pos 0)) tt v (of b) b0.diff) (cert2 (λ v b. lit (pos 1) ⊗ v ≼ b ∵ b ⊝ v) tt v (of b) p.diff);
    })
