-- Terms in a slice: whether they fit, and whether there is room for them. Assumes nothing.
use Rattle.std.specs.Prelude.{ℕ, Bool, cond, List, length, Some, None, Option, nat_le}
use Rattle.std.specs.List.{list_all}
use Rattle.interval.specs.Interval.{fits}
use Rattle.polynomial.specs.declared.term.Term.{Term}

-- every coefficient fits
abbrev pub all_fit : List Term → Bool
all_fit ts = list_all (λ t. fits t.coefficient) ts

-- how many terms there are, where there is room for n
abbrev pub new_count : ℕ → List Term → Option ℕ
new_count n ts = cond (nat_le (length ts) n) (Some (length ts)) None
