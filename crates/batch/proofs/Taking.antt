-- A coefficient's hull fits, and a desk's inputs have the names and the number that its view shows.
use Rattle.std.proofs.Common.{◌≡◌, ℕ, ◌<◌, false, ◌&&◌, List, [], ◌∷◌, ◌++◌, map, length, is_some, IsErrAnd, MatchResult, Some, Ok, Err, vec_items, vec_len, string_bytes, Result, sym, refl, ap, ◌∙◌, lt-ltb}
use lib.Ieee.{Float}
use Rattle.std.specs.Float.{float_is_finite}
use Rattle.std.proofs.lemmas.List.{length-map}
use Rattle.std.proofs.lemmas.Option.{cond_some}
use Rattle.std.proofs.lemmas.Bool.{and_parts}
use Rattle.interval.specs.declared.marks.Interval.{Interval}
use Rattle.interval.specs.declared.variable.Variable.{Variable}
use Rattle.interval.specs.Hull.{hull, hulled}
use Rattle.interval.specs.Interval.{Fits, fits}
use Rattle.interval.proofs.Orders.{hull_ordered}
use Rattle.interval.proofs.Sizes.{fits-sized}
use Rattle.interval.specs.Variable.{variable_of}
use Rattle.batch.specs.declared.desk.Desk.{Desk}
use Rattle.batch.specs.declared.inputs.Input.{Input}
use Rattle.batch.specs.declared.inputs.Inputs.{Inputs}
use Rattle.batch.specs.Desks.{View, view, names, marks_a_unit, with_inputs, taken}
use Rattle.batch.specs.Inputs.{named, named_variables, names_of, place_of}
use Rattle.batch.specs.Statements.{input_is}
use Rattle.batch.specs.Words.{Text}

-- a hull that fits
pub hull_fit : (S : ℕ) (x : Float) (i : Interval) → Some i ≡ hulled S x → Fits i
hull_fit S x i e =
    let p = cond_some (float_is_finite x && fits (hull S x)) (hull S x) i (sym e) in
    rw (← p.1) (fits-sized (hull_ordered S x) (and_parts (float_is_finite x) (fits (hull S x)) p.0).1)

-- ---- the inputs of a desk
pub counted : (i : Inputs) → length (named_variables i) ≡ vec_len i.all
counted i = length-map (vec_items i.all) named ∙ sym i.all.ok.0

first_names : (xs : List Input) → map (λ x. x.0) (map named xs) ≡ map (λ x. string_bytes x.name) xs
first_names [] = refl
first_names (x ∷ xs) = ap (λ ns. string_bytes x.name ∷ ns) (first_names xs)

pub names_are : (d : Desk) → names (view d) ≡ names_of d.inputs
names_are d = first_names (vec_items d.inputs.all)

-- ---- an input that comes
pub mapped : {A E D : Type 0} (r : Result A E) (m : Result A D) (x : A) (Q : E → D → Type 0) → MatchResult r (λ y. m ≡ Ok y) (λ e. IsErrAnd m (Q e)) → m ≡ Ok x → Ok x ≡ r
mapped (Ok y) m x Q h e = cc
mapped (Err y) m x Q h e = absurd (rw e at h)

module _ (v : View) (name : Text) (low high : Float) where
  pub input_comes : is_some (place_of (names v) name) ≡ false → length v.inputs < 6 → (x : Variable) → Ok x ≡ variable_of (marks_a_unit v) low high → taken (input_is name low high) v ≡ Ok (with_inputs (v.inputs ++ ((name, x) ∷ [])) v)
  unfolding taken
  input_comes free room x e = let few = lt-ltb (length v.inputs) 6 room in rw (free, few, ← e)
