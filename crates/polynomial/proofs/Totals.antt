-- Sums over a list in any commutative ring: what passes from one element to another leaves the sum as it was.
-- Assumes nothing.
use Rattle.std.proofs.Common.{◌≡◌, List, [], ◌∷◌, pos, sym, refl, ap, ◌∙◌, ap₂}
use Rattle.std.specs.List.{AllByRecursion}
use Rattle.rational.proofs.Solver.{Ring, lit, ◌⊕◌, ◌⊗◌, ◌⊝◌, ◌≈◌, ring3, ring4, combine}

module _ (R : Ring) where
  open R use {carrier, add, of, zero_add}

  abbrev pub total : {A : Type 0} → (A → carrier) → List A → carrier
  total f [] = of (pos 0)
  total f (x ∷ xs) = add (f x) (total f xs)

  pub total-same : {A : Type 0} (f g : A → carrier) (xs : List A) → AllByRecursion (λ x. f x ≡ g x) xs → total f xs ≡ total g xs
  total-same f g [] h = refl
  total-same f g (x ∷ xs) h = ap₂ add h.0 (total-same f g xs h.1)

  total_zero : {A : Type 0} (xs : List A) → total (λ _. of (pos 0)) xs ≡ of (pos 0)
  total_zero [] = refl
  total_zero (x ∷ xs) = zero_add (total (λ _. of (pos 0)) xs) ∙ total_zero xs

  total_add : {A : Type 0} (f g : A → carrier) (xs : List A) → total (λ x. add (f x) (g x)) xs ≡ add (total f xs) (total g xs)
  total_add f g [] = sym (zero_add (of (pos 0)))
  total_add f g (x ∷ xs) =
      ap (add (add (f x) (g x))) (total_add f g xs)
      ∙ ring4 R (λ a b c d. (a ⊕ b) ⊕ (c ⊕ d) ≈ (a ⊕ c) ⊕ (b ⊕ d)) tt (f x) (g x) (total f xs) (total g xs)

  -- row by row, or column by column
  total_swap : {A B : Type 0} (f : A → B → carrier) (xs : List A) (ys : List B) → total (λ x. total (f x) ys) xs ≡ total (λ y. total (λ x. f x y) xs) ys
  total_swap f [] ys = sym (total_zero ys)
  total_swap f (x ∷ xs) ys = ap (add (total (f x) ys)) (total_swap f xs ys) ∙ sym (total_add (f x) (λ y. total (λ x. f x y) xs) ys)

  -- f x y passes from x to y, and turns the value old into the value new
  pub regrouped : {A : Type 0} (old new : A → carrier) (f : A → A → carrier) (xs : List A)
      → AllByRecursion (λ x. add (new x) (total (f x) xs) ≡ add (old x) (total (λ y. f y x) xs)) xs → total new xs ≡ total old xs
  regrouped old new f xs h =
      combine R (of (pos 1)) sums
      (ring3 R (λ n o p. n ⊝ o ≈ lit (pos 1) ⊗ ((n ⊕ p) ⊝ (o ⊕ p))) tt (total new xs) (total old xs) (total (λ x. total (f x) xs) xs))
    where
      sums : add (total new xs) (total (λ x. total (f x) xs) xs) ≡ add (total old xs) (total (λ x. total (f x) xs) xs)
      sums =
          sym (total_add new (λ x. total (f x) xs) xs) ∙ total-same (λ x. add (new x) (total (f x) xs)) (λ x. add (old x) (total (λ y. f y x) xs)) xs h
          ∙ total_add old (λ x. total (λ y. f y x) xs) xs ∙ ap (add (total old xs)) (sym (total_swap f xs xs))
