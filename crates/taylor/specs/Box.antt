-- The box: the points in it, and their unit coordinates. Assumes nothing.
use Rattle.std.specs.Prelude.{List, [], ◌∷◌, unsigned_abs}
use Rattle.rational.specs.Fraction.{Fraction, whole, per, ◌-ᶠ◌}
use Rattle.interval.specs.declared.variable.Variable.{Variable}
use Rattle.interval.specs.Interval.{◌within◌}
use Rattle.interval.specs.Variable.{span}

-- a point: one fraction of marks for each variable, within the box
abbrev pub InBox : List Variable → List Fraction → Type 0
InBox [] [] = Unit {0}
InBox [] (p ∷ ps) = ⊥
InBox (v ∷ vs) [] = ⊥
InBox (v ∷ vs) (p ∷ ps) = (p within span v) × InBox vs ps

-- a mark minus the centre, over the half width, or 0 where that is 0
abbrev pub unit : Variable → Fraction → Fraction
unit v p = per (p -ᶠ whole v.centre) (unsigned_abs v.half)

-- the point's unit coordinates
abbrev pub units : List Variable → List Fraction → List Fraction
units [] ps = []
units (v ∷ vs) [] = []
units (v ∷ vs) (p ∷ ps) = unit v p ∷ units vs ps
