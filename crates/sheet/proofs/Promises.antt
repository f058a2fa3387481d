-- The promise, part by part, from the invariant of a reached sheet. Assumes nothing.
use Rattle.std.proofs.Common.{ap, ◌∙◌}
use Rattle.interval.specs.Kind.{KindMeaning}
use Rattle.polynomial.specs.Method.{MethodMeaning}
use Rattle.formula.specs.Inputs.{given_ends}
use Rattle.formula.proofs.SoundWork.{work_sound}
use Rattle.formula.proofs.WholeWork.{work-whole}
use Rattle.sheet.specs.State.{State}
use Rattle.sheet.specs.Opening.{Opening}
use Rattle.sheet.specs.Standing.{Standing, standing}
use Rattle.sheet.specs.Promise.{StandsThere, Promised}
use Rattle.sheet.proofs.Ends.{box_gives}
use Rattle.sheet.proofs.Invariant.{Invariant}
use Rattle.sheet.proofs.Kept.{reached_keeps}
use Rattle.sheet.proofs.NewSheet.{same_as_new}
use Rattle.sheet.proofs.Told.{narrowings_true}
use Rattle.sheet.proofs.Sounding.{line_in_bounds}
use Rattle.sheet.proofs.WholeLines.{line-exact}

stands-there : (k : KindMeaning) (m : MethodMeaning) (given : Opening) (what : Standing) (s : State) → Invariant k m given what s → StandsThere k what s
stands-there k m given what s I = record { ends = ap given_ends I.box ∙ box_gives k what.ends; box = I.box; lines = I.same-texts }

pub promised : Promised
promised k m given log s R =
    let I = reached_keeps k m given R in
    let what = standing given log in
    record {
      there = stands-there k m given what s I;
      bounds = λ point P n h. line_in_bounds work_sound k m given what s I point P n h;
      new = same_as_new k m given what s I;
      narrowings = narrowings_true k m given R;
      exact = λ K point P n h c b. line-exact work_sound work-whole k m given what s I K point P n h c b;
    }
