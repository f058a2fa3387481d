-- The marks of a unit. Assumes nothing.
use Rattle.std.specs.Prelude.{ℕ, ◌^◌}
use Rattle.interval.specs.declared.scale.Scale.{Scale}

-- how many marks make a unit
abbrev pub per_unit : Scale → ℕ
per_unit s = 2 ^ s.bits
