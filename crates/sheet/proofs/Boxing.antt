-- The variables of a record, made one after the other. Assumes nothing.
use Rattle.std.proofs.Common.{◌≡◌, ℕ, ◌+◌, ◌<◌, ◌≤◌, List, [], ◌∷◌, ◌++◌, length, get_or, take, drop, set, Ok, Result, sym, ap, ◌∙◌, subst, arith}
use lib.Ieee.{Float}
use Rattle.std.specs.List.{AllByRecursion}
use Rattle.std.proofs.ByRecursion.{All-push}
use Rattle.std.proofs.lemmas.List.{at_drop_more, map_more}
use Rattle.interval.specs.declared.reason.Reason.{Reason}
use Rattle.interval.specs.declared.variable.Variable.{Variable}
use Rattle.interval.specs.Reason.{and_then}
use Rattle.interval.specs.Variable.{variable, variable_of, Sound}
use Rattle.table.specs.Slice.{Packs}
use Rattle.formula.specs.Inputs.{ends_tested}
use Rattle.formula.specs.Work.{no_variable, at_place}
use Rattle.sheet.specs.Boxes.{boxed}
use Rattle.sheet.specs.Shape.{FitVariable}
use Rattle.formula.proofs.Enclosing.{accepted_is}
use Rattle.sheet.proofs.Slices.{packs-push}

module _ (S : ℕ) (ends : List (Float × Float)) where
  -- the first i variables are made, and what is left decides
  pub record Boxing (i : ℕ) (made : List Variable) : Type 0 where
    pub tested : ends_tested S i (drop i ends) ≡ ends_tested S 0 ends
    pub packs : Packs 6 no_variable made i (boxed S (take i ends))
    pub fit : AllByRecursion FitVariable (boxed S (take i ends))

  module _ (i : ℕ) (made : List Variable) (b : Boxing i made) (d : Float × Float) (h : i < length ends) where
    -- what is left begins with ends i
    next : (r : Result Variable Reason) → r ≡ variable_of S (get_or ends i d).0 (get_or ends i d).1
        → ends_tested S 0 ends ≡ and_then (at_place i r) (λ _. ends_tested S (i + 1) (drop (i + 1) ends))
    next r is =
        sym b.tested ∙ at_drop_more (ends_tested S i) ends i d h
        ∙ ap (λ q. and_then (at_place i q) (λ _. ends_tested S (i + 1) (drop (i + 1) ends))) (sym is)

    pub boxing_more : length ends ≤ 6 → (v : Variable) → Ok v ≡ variable_of S (get_or ends i d).0 (get_or ends i d).1 → Sound S v → Boxing (i + 1) (set made i v)
    boxing_more few v is sound =
        let more : boxed S (take i ends) ++ (v ∷ []) ≡ boxed S (take (i + 1) ends) =
        ap (λ w. boxed S (take i ends) ++ (w ∷ [])) (accepted_is S (get_or ends i d) (sym is)) ∙ sym (map_more (λ e. variable S e.0 e.1) ends i d h) in
        record {
          tested = sym (next (Ok v) is);
          packs = subst (Packs 6 no_variable (set made i v) (i + 1)) more (packs-push 6 no_variable made i (boxed S (take i ends)) v b.packs (omega arith));
          fit = subst (AllByRecursion FitVariable) more (All-push FitVariable (boxed S (take i ends)) v b.fit (record { centre = sound.centre; half = sound.half }));
        }
