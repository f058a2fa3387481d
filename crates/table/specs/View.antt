-- A table by its slice. Assumes nothing.
use Rattle.std.specs.Prelude.{List, take}
use Rattle.table.specs.declared.entries.Table.{Table}

module _ {E : Type 0} where
  -- the whole slice that a table is over
  abbrev pub slice_of : Table E → List E
  slice_of t = t.entries.now

  -- the entries in use
  abbrev pub in_use : Table E → List E
  in_use t = take t.count (slice_of t)
