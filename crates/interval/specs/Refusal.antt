-- How a refusal is written. Assumes nothing.
use Rattle.std.specs.Prelude.{ℕ, List, ◌++◌, codes, decimal}
use Rattle.interval.specs.declared.refusal.Refusal.{Refusal}
use Rattle.interval.specs.Reason.{number, words}

-- its number, its line and place, and its words
abbrev pub told : Refusal → List ℕ
told x =
    codes "refused " ++ (decimal (number x.reason) ++ (codes " at line " ++ (decimal x.line
    ++ (codes ", place " ++ (decimal x.place ++ (codes ": " ++ words x.reason))))))
