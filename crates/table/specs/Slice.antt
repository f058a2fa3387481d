-- A table in a slice: the entries in use come first. Assumes nothing.
use Rattle.std.specs.Prelude.{◌≡◌, ℕ, ◌-◌, ◌≤◌, List, ◌++◌, length, drop, replicate}

module _ {E : Type 0} where
  -- ts written over the front of a slice
  abbrev pub over : List E → List E → List E
  over ts slice = ts ++ drop (length ts) slice

  -- n places that begin with ts, blank from there on
  abbrev pub packed : ℕ → E → List E → List E
  packed n blank ts = ts ++ replicate (n - length ts) blank

  -- a slice of n places with count in use holds the table ts, and is blank past it
  pub record Packs (n : ℕ) (blank : E) (slice : List E) (count : ℕ) (ts : List E) : Type 0 where
    pub whole : slice ≡ packed n blank ts
    pub size : count ≡ length ts
    pub fits : length ts ≤ n
