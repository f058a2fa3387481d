-- A factor is cut at its caret.
use Rattle.std.proofs.Common.{◌≡◌, List, [], ◌∷◌, ◌++◌, Some, None, sym, refl, ap, ◌∙◌}
use Rattle.std.specs.Option.{option_map}
use Rattle.interval.specs.Reason.{and_then}
use Rattle.batch.specs.Factors.{cut_at_caret, power_of, placed, factored, factor_of}
use Rattle.batch.specs.Words.{Text}
use Rattle.batch.proofs.Cuts.{Lacks, head_lacks, tail_lacks}

caret_none : (t : Text) → Lacks 94 t → cut_at_caret t ≡ None
caret_none [] h = refl
caret_none (c ∷ t) h = rw (head_lacks 94 c t h) (ap (option_map (λ p. (c ∷ p.0, p.1))) (caret_none t (tail_lacks 94 c t h)))

caret_at : (x m : Text) → Lacks 94 x → cut_at_caret (x ++ (94 ∷ m)) ≡ Some (x, m)
caret_at [] m h = refl
caret_at (c ∷ x) m h = rw (head_lacks 94 c x h) (ap (option_map (λ p. (c ∷ p.0, p.1))) (caret_at x m (tail_lacks 94 c x h)))

module _ (names : List Text) (word : Text) where
  pub factor_plain : Lacks 94 word → placed names word 1 ≡ factor_of names word
  unfolding factor_of
  factor_plain h = ap (factored names word) (sym (caret_none word h))

  pub factor_raised : (name t : Text) → word ≡ name ++ (94 ∷ t) → Lacks 94 name → and_then (power_of t word) (λ k. placed names name k) ≡ factor_of names word
  unfolding factor_of
  factor_raised name t e h = ap (factored names word) (sym (ap cut_at_caret e ∙ caret_at name t h))
