-- Inputs by their names. Assumes nothing.
use Rattle.std.specs.Prelude.{ℕ, ◌+◌, cond, List, [], ◌∷◌, map, Some, None, vec_items, string_bytes, Option}
use Rattle.std.specs.Str.{bytes_eq}
use Rattle.interval.specs.declared.variable.Variable.{Variable}
use Rattle.batch.specs.declared.inputs.Input.{Input}
use Rattle.batch.specs.declared.inputs.Inputs.{Inputs}
use Rattle.batch.specs.Words.{Text}

-- an input's name beside its variable
abbrev pub named : Input → Text × Variable
named x = (string_bytes x.name, x.variable)

abbrev pub named_variables : Inputs → List (Text × Variable)
named_variables i = map named (vec_items i.all)

abbrev pub names_of : Inputs → List Text
names_of i = map (λ x. string_bytes x.name) (vec_items i.all)

-- the place of the first name that is equal
abbrev pub place_from : ℕ → List Text → Text → Option ℕ
place_from i [] name = None
place_from i (n ∷ ns) name = cond (bytes_eq n name) (Some i) (place_from (i + 1) ns name)

abbrev pub place_of : List Text → Text → Option ℕ
place_of ns name = place_from 0 ns name
