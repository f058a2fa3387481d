use Rattle.std.proofs.Common.{◌≡◌, not}
use Rattle.std.proofs.lemmas.List.Filters.{FiltersInPlace}
use Rattle.table.proofs.entries.Table.compact.Given as goal

-- the count stays as it was, and within the slice
abbrev pub invariant-loop-i : goal.invariant-loop-i
invariant-loop-i g l =
    FiltersInPlace (λ e. not (g.E.Entry.spent e)) l.initial.self.entries.now l.self.entries.now l.kept l.i
    × (l.self.count ≡ l.initial.self.count)
    × (l.self.entries.ghost_name ≡ l.initial.self.entries.ghost_name)
