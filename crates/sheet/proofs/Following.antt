-- Lines that follow from their texts: each is what `work` gives from the box and the lines below it. Assumes nothing.
use Rattle.std.proofs.Common.{◌≡◌, ℕ, zero, suc, List, [], ◌∷◌, ◌++◌, take, Ok, sym, ap, ◌∙◌, subst, append_assoc, append-nil}
use Rattle.interval.specs.declared.variable.Variable.{Variable}
use Rattle.interval.specs.Reason.{and_then}
use Rattle.interval.specs.Kind.{KindMeaning}
use Rattle.polynomial.specs.Method.{MethodMeaning}
use Rattle.taylor.specs.Product.{Worked}
use Rattle.formula.specs.Work.{ground, work}
use Rattle.sheet.specs.State.{Line, texts, workeds}
use Rattle.sheet.specs.Consistency.{built}

module _ (k : KindMeaning) (m : MethodMeaning) (order : ℕ) (box : List Variable) where
  -- the lines follow one after the other, from those below
  abbrev pub Follow : List Worked → List Line → Type 0
  Follow below [] = Unit {0}
  Follow below (l ∷ ls) = (work k m (ground order box below) l.text ≡ Ok l.worked) × Follow (below ++ (l.worked ∷ [])) ls

  -- one line more
  pub follow_push : (below : List Worked) (ls : List Line) (l : Line) → Follow below ls →
      work k m (ground order box (below ++ workeds ls)) l.text ≡ Ok l.worked → Follow below (ls ++ (l ∷ []))
  follow_push below [] l F e = (subst (λ b. work k m (ground order box b) l.text ≡ Ok l.worked) (append-nil below) e, tt)
  follow_push below (x ∷ ls) l F e =
      (F.0, follow_push (below ++ (x.worked ∷ [])) ls l F.1 (subst (λ b. work k m (ground order box b) l.text ≡ Ok l.worked) (sym (append_assoc below (x.worked ∷ []) (workeds ls))) e))

  -- the first n lines
  pub follow_take : (below : List Worked) (n : ℕ) (ls : List Line) → Follow below ls → Follow below (take n ls)
  follow_take below zero ls F = tt
  follow_take below (suc n) [] F = tt
  follow_take below (suc n) (l ∷ ls) F = (F.0, follow_take (below ++ (l.worked ∷ [])) n ls F.1)

  -- so they are what their texts give
  pub follow_built : (below : List Worked) (ls : List Line) → Follow below ls → built k m order box below (texts ls) ≡ Ok (below ++ workeds ls)
  unfolding built
  follow_built below [] F = ap Ok (sym (append-nil below))
  follow_built below (l ∷ ls) F =
      ap (λ r. and_then r (λ w. built k m order box (below ++ (w ∷ [])) (texts ls))) F.0
      ∙ follow_built (below ++ (l.worked ∷ [])) ls F.1
      ∙ ap Ok (append_assoc below (l.worked ∷ []) (workeds ls))
