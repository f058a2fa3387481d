-- What a formula is given: the ends of each variable, the box that they make, and a text. Assumes nothing.
use Rattle.std.specs.Prelude.{ℕ, ◌+◌, Bool, ◌&&◌, List, [], ◌∷◌, map, length, Ok, Result, nat_le, Float}
use Rattle.interval.specs.declared.variable.Variable.{Variable}
use Rattle.interval.specs.Reason.{and_then}
use Rattle.interval.specs.Variable.{variable, variable_of}
use Rattle.interval.specs.Kind.{KindMeaning}
use Rattle.formula.specs.declared.fault.Fault.{Fault}
use Rattle.formula.specs.Fault.{at_place}

-- n lies from a to b
abbrev pub from_to : ℕ → ℕ → ℕ → Bool
from_to a b n = nat_le a n && nat_le n b

-- the lower and the upper end of a variable, as binary64
abbrev pub Ends : Type 0
Ends = Float × Float

-- a variable of each two ends, at a scale
abbrev pub boxed : ℕ → List Ends → List Variable
boxed S ends = map (λ e. variable S e.0 e.1) ends

-- the box that the ends make at the kind's scale: a centre and a half width of each variable
abbrev pub box_of : KindMeaning → List Ends → List Variable
box_of k ends = boxed k.scale ends

-- the ends that a box was made from
abbrev pub given_ends : List Variable → List Ends
given_ends box = map (λ v. (v.lower, v.upper)) box

-- each variable's ends from number n on are tested in turn; a fault has the variable's number as its place
abbrev pub ends_tested : ℕ → ℕ → List Ends → Result Unit Fault
ends_tested S n [] = Ok tt
ends_tested S n (e ∷ es) = and_then (at_place n (variable_of S e.0 e.1)) (λ _. ends_tested S (n + 1) es)

-- a text has 1 to 255 bytes
abbrev pub text_fits : List ℕ → Bool
text_fits text = from_to 1 255 (length text)
