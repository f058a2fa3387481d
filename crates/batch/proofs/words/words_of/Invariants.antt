use Rattle.std.proofs.Common.{vec_items}
use Rattle.batch.proofs.Wording.{Sofar}
use Rattle.batch.proofs.words.words_of.Given as goal

abbrev pub invariant-loop-piece : goal.invariant-loop-piece
invariant-loop-piece l = Sofar l.line l.piece-iterator (vec_items l.found)
