-- A line uses a variable exactly if one of the tokens that it is built from names it: both go down the same lines. Assumes nothing.
use Rattle.std.proofs.Common.{◌≡◌, ℕ, Bool, ◌||◌, eqb, List, [], ◌∷◌, ◌++◌, map, get_or, fold, sym, refl, ap, ◌∙◌, ap₂}
use Rattle.std.proofs.lemmas.List.{map_push}
use Rattle.std.proofs.lemmas.List.Folds.{list_any-append}
use Rattle.std.proofs.Math.ListN.{get_or-map}
use Rattle.formula.specs.declared.token.Token.{Token}
use Rattle.formula.specs.declared.token.Token.TheVariants.{Constant, Variable, Line, Power, Add, Subtract, Multiply}
use Rattle.formula.specs.Token.{tokens}
use Rattle.formula.specs.Meaning.{by_line, token_uses, any_uses, all_named}
use Rattle.formula.specs.Laws.{names, UsesWhatItIsBuiltFrom}
use Rattle.formula.proofs.Lines.{grown}

module _ (v : ℕ) where
  same-uses : (below : List (List Token)) (ts : List Token) → any_uses v (map (names v) below) ts ≡ names v (all_named below ts)
  same-uses below [] = refl
  same-uses below (Constant x ∷ ts) = same-uses below ts
  same-uses below (Variable w ∷ ts) = ap (λ (b : Bool). eqb v w || b) (same-uses below ts)
  same-uses below (Line n ∷ ts) =
      ap₂ (λ (a b : Bool). a || b) (get_or-map (names v) below n []) (same-uses below ts) ∙ sym (list_any-append (token_uses v []) (get_or below n []) (all_named below ts))
  same-uses below (Power e ∷ ts) = same-uses below ts
  same-uses below (Add ∷ ts) = same-uses below ts
  same-uses below (Subtract ∷ ts) = same-uses below ts
  same-uses below (Multiply ∷ ts) = same-uses below ts

  -- one line more on both sides
  pub same_grown : (below : List (List Token)) (t : List ℕ) → grown (any_uses v) (map (names v) below) t ≡ map (names v) (grown all_named below t)
  same_grown below t = ap (λ (b : Bool). map (names v) below ++ (b ∷ [])) (same-uses below (tokens t)) ∙ sym (map_push (names v) below (all_named below (tokens t)))

  same_lines : (below : List (List Token)) (texts : List (List ℕ))
      → fold (grown (any_uses v)) (map (names v) below) texts ≡ map (names v) (fold (grown all_named) below texts)
  same_lines below [] = refl
  same_lines below (t ∷ texts) =
      ap (λ (us : List Bool). fold (grown (any_uses v)) us texts) (same_grown below t) ∙ same_lines (grown all_named below t) texts

pub uses_what_it_is_built_from : UsesWhatItIsBuiltFrom
unfolding by_line
uses_what_it_is_built_from v texts = same_lines v [] texts
