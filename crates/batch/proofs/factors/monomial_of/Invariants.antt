use Rattle.std.proofs.Common.{◌≡◌, map, length, drop}
use Rattle.batch.specs.Factors.{monomial_from, monomial_of}
use Rattle.batch.specs.Inputs.{names_of}
use Rattle.batch.specs.Words.{token}
use Rattle.batch.proofs.factors.monomial_of.Given as goal

abbrev pub invariant-loop-word : goal.invariant-loop-word
invariant-loop-word l =
    (length l.monomial ≡ 6)
    × (monomial_from (names_of l.inputs) l.order l.monomial (map token (drop l.word-index l.factors)) ≡ monomial_of (names_of l.inputs) l.order (map token l.factors))
