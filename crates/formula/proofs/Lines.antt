-- Line by line: each text adds one entry at the end and leaves those before it. Assumes nothing.
use Rattle.std.proofs.Common.{◌≡◌, ℕ, ◌+◌, ◌<◌, ◌≤◌, List, [], ◌∷◌, ◌++◌, length, get_or, take, drop, fold, sym, refl, ap, ◌∙◌, zero-add, arith}
use Rattle.std.proofs.lemmas.List.Sums.{fold-append}
use Rattle.std.proofs.lemmas.List.{length_push, take_all, take-append-le, take-append-drop, take_more, get_or-take, get_or_push, length-take-le}
use Rattle.std.proofs.lemmas.List.Sums.{fold_push}
use Rattle.formula.specs.declared.token.Token.{Token}
use Rattle.formula.specs.Token.{tokens}
use Rattle.formula.specs.Meaning.{by_line}
use Rattle.formula.specs.Laws.{LineByLine}

module _ {A : Type 0} (f : List A → List Token → A) where
  -- the entries with one line more
  abbrev pub grown : List A → List ℕ → List A
  grown below text = below ++ (f below (tokens text) ∷ [])

  all_length : (below : List A) (texts : List (List ℕ)) → length (fold grown below texts) ≡ length below + length texts
  all_length below [] = omega arith
  all_length below (t ∷ texts) = all_length (grown below t) texts ∙ omega (arith, length_push below (f below (tokens t)))

  -- what stands stays
  all_front : (below : List A) (texts : List (List ℕ)) (n : ℕ) → n ≤ length below → take n (fold grown below texts) ≡ take n below
  all_front below [] n h = refl
  all_front below (t ∷ texts) n h =
      all_front (grown below t) texts n (omega (arith, length_push below (f below (tokens t)))) ∙ take-append-le n below (f below (tokens t) ∷ []) h

  -- one entry a line
  pub by_line_length : (texts : List (List ℕ)) → length (by_line f texts) ≡ length texts
  unfolding by_line
  by_line_length texts = all_length [] texts ∙ zero-add (length texts)

  -- one text more adds one entry
  pub by_line_push : (texts : List (List ℕ)) (t : List ℕ) → by_line f (texts ++ (t ∷ [])) ≡ by_line f texts ++ (f (by_line f texts) (tokens t) ∷ [])
  unfolding by_line
  by_line_push texts t = fold_push grown [] texts t

  -- and leaves those of the texts before it
  pub by_line_front : (texts more : List (List ℕ)) → take (length texts) (by_line f (texts ++ more)) ≡ by_line f texts
  unfolding by_line
  by_line_front texts more =
      let l = by_line_length texts in
      let here = fold grown [] texts in
      ap (take (length texts)) (fold-append grown [] texts more)
      ∙ all_front here more (length texts) (omega arith)
      ∙ take_all (length texts) here (omega arith)

  pub line_by_line : LineByLine (by_line f)
  line_by_line texts more = (by_line_length texts, by_line_front texts more)

  pub by_line_take : (texts : List (List ℕ)) (n : ℕ) → n ≤ length texts → take n (by_line f texts) ≡ by_line f (take n texts)
  by_line_take texts n h =
      let e = length-take-le n texts h in
      ap (λ (ts : List (List ℕ)). take n (by_line f ts)) (sym (take-append-drop n texts))
      ∙ ap (λ (k : ℕ). take k (by_line f (take n texts ++ drop n texts))) (sym e)
      ∙ by_line_front (take n texts) (drop n texts)

  -- the entry of line n is made from those of the lines below it and from its tokens
  pub by_line_at : (texts : List (List ℕ)) (n : ℕ) (d : A) → n < length texts → get_or (by_line f texts) n d ≡ f (by_line f (take n texts)) (tokens (get_or texts n []))
  by_line_at texts n d h =
      let t = get_or texts n [] in
      let m : n < n + 1 = omega arith in
      sym (get_or-take (n + 1) (by_line f texts) n d m)
      ∙ ap (λ (xs : List A). get_or xs n d) (by_line_take texts (n + 1) (omega arith) ∙ ap (by_line f) (take_more texts n [] h) ∙ by_line_push (take n texts) t)
      ∙ get_or_push (by_line f (take n texts)) (f (by_line f (take n texts)) (tokens t)) d n (by_line_length (take n texts) ∙ length-take-le n texts (omega arith))
