-- The bytes so far are those of the tokens so far.
use Rattle.std.proofs.Common.{◌≡◌, take, vec_items}
use Rattle.formula.specs.Written.{written_all}
use Rattle.formula.proofs.writer.write_all.Given as goal

abbrev pub invariant-loop-token : goal.invariant-loop-token
invariant-loop-token l = vec_items l.text ≡ written_all (take l.token-index l.tokens)
