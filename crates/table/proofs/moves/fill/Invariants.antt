use Rattle.std.proofs.Common.{◌≡◌, take, replicate, length}
use Rattle.table.proofs.moves.fill.Given as goal

abbrev pub invariant-loop-e : goal.invariant-loop-e
invariant-loop-e g l = (take l.e-index l.entries ≡ replicate l.e-index l.blank) × (length l.entries ≡ length l.initial.entries)
