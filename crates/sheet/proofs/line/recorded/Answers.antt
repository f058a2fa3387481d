-- The part from 0 on is the posted text; what follows it is still zero.
use Rattle.std.proofs.Common.{ℕ, ◌-◌, List, ◌++◌, length, replicate, ap}
use native.Mathlib.Nat.{sub-zero}
use Rattle.std.proofs.lemmas.List.{drop-replicate}
use Rattle.sheet.proofs.line.recorded.Goals as goal

pub returns : goal.returns
returns c = record { value = simp (drop-replicate, sub-zero) (ap (λ (t : List ℕ). t ++ replicate (255 - length c.args.posted.now) 0) c.copy_from_slice.ensures.after) }
