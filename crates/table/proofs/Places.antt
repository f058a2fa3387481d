-- An entry enters a table at the place that one search finds. Assumes nothing.
use Rattle.std.proofs.Common.{◌≡◌, ℕ, suc, ◌+◌, Bool, true, false, cond, List, [], ◌∷◌, get_or, drop, set, Ordering, Less, Equal, Greater, sym, refl, ap, ◌∙◌, arith}
use Rattle.std.specs.Ordering.{is_lt}
use Rattle.std.specs.List.{insert}
use Rattle.table.specs.Order.{Order}
use Rattle.table.specs.Table.{by_rank, place, first_is, has_key, entered}

module _ {E K : Type 0} (o : Order K) (key : E → K) where
  -- e at place i: joined to the entry there, or put between its neighbours
  abbrev pub placed : (E → E → E) → List E → E → ℕ → Bool → List E
  placed join es e i found = cond found (set es i (join (get_or es i e) e)) (insert es i e)

  shifted : (join : E → E → E) (x : E) (xs : List E) (e : E) (i : ℕ) (b : Bool) → placed join (x ∷ xs) e (suc i) b ≡ x ∷ placed join xs e i b
  shifted join x xs e i true = refl
  shifted join x xs e i false = refl

  pub entered-placed : (join : E → E → E) (es : List E) (e : E) → entered o key join es e ≡ placed join es e (place o key es (key e)) (has_key o key es (key e))
  entered-placed join [] e = refl
  entered-placed join (x ∷ xs) e = go (o.rank (key x) (key e)) refl (entered-placed join xs e)
    where
      go : (r : Ordering) → o.rank (key x) (key e) ≡ r → entered o key join xs e ≡ placed join xs e (place o key xs (key e)) (has_key o key xs (key e)) →
          by_rank r (x ∷ entered o key join xs e) (join x e ∷ xs) (e ∷ x ∷ xs)
          ≡ placed join (x ∷ xs) e (cond (is_lt r) (1 + place o key xs (key e)) 0) (first_is o key (key e) (drop (cond (is_lt r) (1 + place o key xs (key e)) 0) (x ∷ xs)))
      go Less q h =
          let n = place o key xs (key e) in
          let more : 1 + n ≡ suc n = omega arith in
          rw more (ap {B = List E} (λ r. x ∷ r) h ∙ sym (shifted join x xs e n (has_key o key xs (key e))))
      go Equal q h = rw q refl
      go Greater q h = rw q refl
