-- The lines of a reached sheet are what its standing texts give from its standing box. Assumes nothing.
use Rattle.std.proofs.Common.{◌≡◌, ℕ, List, [], Ok}
use mathlib.Core.Path.{subst₃}
use Rattle.interval.specs.declared.variable.Variable.{Variable}
use Rattle.sheet.specs.State.{workeds}
use Rattle.sheet.specs.Consistency.{built, Consistent, InnerEndsFit}
use Rattle.sheet.proofs.Following.{follow_built}
use Rattle.sheet.specs.Standing.{standing}
use Rattle.sheet.proofs.Kept.{reached_keeps}
use Rattle.sheet.proofs.Narrowed.{narrowed-ends}

pub consistent : Consistent
consistent k m given log s R =
    let I = reached_keeps k m given R in
    let e = follow_built k m s.order s.box [] s.lines I.follow in
    subst₃ (λ (n : ℕ) (box : List Variable) (ts : List (List ℕ)). built k m n box [] ts ≡ Ok (workeds s.lines)) I.order I.box I.same-texts e

pub inner_ends_fit : InnerEndsFit
inner_ends_fit k m given log s R v x y there sounds insides =
    let I = reached_keeps k m given R in
    (narrowed-ends k m (standing given log) s v x y I.box I.good there sounds insides).fit
