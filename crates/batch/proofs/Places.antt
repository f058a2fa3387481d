-- The place of a name among the inputs is the first place that the search finds.
use Rattle.std.proofs.Common.{◌≡◌, ℕ, ◌+◌, List, [], ◌∷◌, map, string_bytes, Bool, refl}
use Rattle.std.specs.Str.{bytes_eq}
use Rattle.std.specs.List.{position_from}
use Rattle.batch.specs.declared.inputs.Input.{Input}
use Rattle.batch.specs.Inputs.{place_from}
use Rattle.batch.specs.Words.{Text}

abbrev pub names : List Input → List Text
names xs = map (λ x. string_bytes x.name) xs

-- x has this name
abbrev pub is_named : Text → Input → Bool
is_named name x = bytes_eq (string_bytes x.name) name

pub place_found : (name : Text) (i : ℕ) (xs : List Input) → position_from (is_named name) i xs ≡ place_from i (names xs) name
place_found name i [] = refl
place_found name i (x ∷ xs) = rw (place_found name (i + 1) xs)
