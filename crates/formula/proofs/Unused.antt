-- A line that does not use a variable has the same value wherever that variable stands: of the three lists, uses and the values
-- at two points, the values agree at each line where the first says no. Assumes nothing.
use Rattle.std.proofs.Common.{◌≡◌, ℕ, zero, suc, Bool, false, List, [], ◌∷◌, ◌++◌, get_or, Some, None, fold, Option, refl, ap, ◌∙◌}
use Rattle.std.proofs.lemmas.Bool.{eqb-false, or_parts}
use Rattle.std.specs.Option.{option_map}
use Rattle.rational.specs.Fraction.{Fraction, per}
use Rattle.formula.specs.declared.token.Token.{Token}
use Rattle.formula.specs.declared.token.Token.TheVariants.{Constant, Variable, Line, Power, Add, Subtract, Multiply}
use Rattle.formula.specs.Token.{tokens}
use Rattle.formula.specs.Meaning.{by_line, token_uses, any_uses, pushed, onward, exact_token, exact_run, exact_tokens}
use Rattle.formula.specs.Laws.{AgreeBut, UnusedIsFree}
use Rattle.formula.proofs.Lines.{grown}

-- line by line: the two values agree where the variable is not used
data Alike : List Bool → List (Option Fraction) → List (Option Fraction) → Type 0 where
  none : Alike [] [] []
  more : {b : Bool} {x y : Option Fraction} {bs : List Bool} {xs ys : List (Option Fraction)}
      → (b ≡ false → x ≡ y) → Alike bs xs ys → Alike (b ∷ bs) (x ∷ xs) (y ∷ ys)

alike-push : {bs : List Bool} {xs ys : List (Option Fraction)} → Alike bs xs ys → {b : Bool} {x y : Option Fraction} → (b ≡ false → x ≡ y)
    → Alike (bs ++ (b ∷ [])) (xs ++ (x ∷ [])) (ys ++ (y ∷ []))
alike-push none h = more h none
alike-push (more g a) h = more g (alike-push a h)

alike_at : {bs : List Bool} {xs ys : List (Option Fraction)} → Alike bs xs ys → (n : ℕ) → get_or bs n false ≡ false → get_or xs n None ≡ get_or ys n None
alike_at none n h = refl
alike_at (more g a) zero h = g h
alike_at (more g a) (suc n) h = alike_at a n h

-- what goes on in the same way from any operands
onward-same : {f g : List Fraction → Option Fraction} (o : Option (List Fraction)) → ((r : List Fraction) → f r ≡ g r) → onward o f ≡ onward o g
onward-same None h = refl
onward-same (Some r) h = h r

module _ (S v : ℕ) (p q : List Fraction) (agree : AgreeBut v p q) where
  -- a token that does not use the variable does the same to the operands
  same-token : (bs : List Bool) (xs ys : List (Option Fraction)) → Alike bs xs ys → (s : List Fraction) (t : Token)
      → token_uses v bs t ≡ false → exact_token S p xs s t ≡ exact_token S q ys s t
  same-token bs xs ys a s (Constant x) h = refl
  same-token bs xs ys a s (Variable w) h = ap (λ (o : Option Fraction). pushed (option_map (λ m. per m S) o) s) (agree w (eqb-false v w h))
  same-token bs xs ys a s (Line n) h = ap (λ (o : Option Fraction). pushed o s) (alike_at a n h)
  same-token bs xs ys a s (Power e) h = refl
  same-token bs xs ys a s Add h = refl
  same-token bs xs ys a s Subtract h = refl
  same-token bs xs ys a s Multiply h = refl

  same-run : (bs : List Bool) (xs ys : List (Option Fraction)) → Alike bs xs ys → (s : List Fraction) (ts : List Token)
      → any_uses v bs ts ≡ false → exact_run S p xs s ts ≡ exact_run S q ys s ts
  same-run bs xs ys a s [] h = refl
  same-run bs xs ys a s (t ∷ ts) h =
      let parts = or_parts (token_uses v bs t) (any_uses v bs ts) h in
      ap (λ (o : Option (List Fraction)). onward o (λ r. exact_run S p xs r ts)) (same-token bs xs ys a s t parts.0)
      ∙ onward-same (exact_token S q ys s t) (λ r. same-run bs xs ys a r ts parts.1)

  same_lines : (bs : List Bool) (xs ys : List (Option Fraction)) → Alike bs xs ys → (texts : List (List ℕ))
      → Alike (fold (grown (any_uses v)) bs texts) (fold (grown (exact_tokens S p)) xs texts) (fold (grown (exact_tokens S q)) ys texts)
  same_lines bs xs ys a [] = a
  same_lines bs xs ys a (t ∷ texts) =
      same_lines (grown (any_uses v) bs t) (grown (exact_tokens S p) xs t) (grown (exact_tokens S q) ys t)
      (alike-push a (λ h. same-run bs xs ys a [] (tokens t) h)) texts

pub unused_is_free : UnusedIsFree
unfolding by_line
unused_is_free S v p q texts n agree h = alike_at (same_lines S v p q agree [] [] [] none texts) n h
