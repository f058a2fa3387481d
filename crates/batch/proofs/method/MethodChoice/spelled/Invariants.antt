use Rattle.std.proofs.Common.{◌≡◌, ◌+◌, ◌≤◌, map, drop, Some}
use Rattle.batch.specs.Words.{token}
use Rattle.batch.specs.Methods.{scanned, spelled_by}
use Rattle.batch.proofs.method.MethodChoice.spelled.Given as goal

abbrev pub invariant-loop-word : goal.invariant-loop-word
invariant-loop-word l =
    (scanned (Some l.scan) (map token (drop l.word-index l.words)) ≡ spelled_by (map token l.words))
    × (l.scan.wanted ≤ l.word-index + 1)
