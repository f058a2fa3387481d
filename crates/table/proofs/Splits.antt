-- The place of a key splits a table, and tells whether the key stands. Assumes nothing.
use Rattle.std.proofs.Common.{◌≡◌, ℕ, zero, suc, ◌<◌, true, false, List, [], ◌∷◌, length, take, drop, Ordering, Less, Equal, Greater, sym, refl, ap, ◌∙◌, subst, true≢false, arith}
use Rattle.std.specs.Ordering.{is_lt}
use Rattle.std.specs.List.{HoldsAt, ContainsAt as Has, AllByRecursion}
use Rattle.std.proofs.ByRecursion.{All-weaker, all-has}
use Rattle.table.specs.Order.{Order}
use Rattle.table.specs.Table.{place, has_key, Ascending}
use Rattle.table.specs.Laws.{Splits, Tells}
use Rattle.table.proofs.Ascents.{same_rank, from_less, from_greater, Above, before_all}
use Rattle.table.proofs.Searches.{place_less, place_here, has_less, has_here}

module _ {E K : Type 0} (o : Order K) (key : E → K) where
  -- ---- the two sides of the place
  abbrev Below : K → E → Type 0
  Below k e = o.rank (key e) k ≡ Less

  abbrev NotBelow : K → E → Type 0
  NotBelow k e = is_lt (o.rank (key e) k) ≡ false

  not_below : (k : K) (es : List E) → Above o key k es → AllByRecursion (NotBelow k) es
  not_below k es h = All-weaker (λ e. o.rank k (key e) ≡ Less) (NotBelow k) (λ e l. ap is_lt (from_less o k (key e) l)) es h

  abbrev Split : List E → K → Type 0
  Split es k = AllByRecursion (Below k) (take (place o key es k) es) × AllByRecursion (NotBelow k) (drop (place o key es k) es)

  split_here : (x : E) (xs : List E) (k : K) → place o key (x ∷ xs) k ≡ 0 → NotBelow k x → Above o key k xs → Split (x ∷ xs) k
  split_here x xs k p n h = rw p (tt, (n, not_below k xs h))

  pub splits : Splits o key
  splits [] k a = (tt, tt)
  splits (x ∷ xs) k a = go (o.rank (key x) k) refl (splits xs k a.1)
    where
      go : (r : Ordering) → o.rank (key x) k ≡ r → Split xs k → Split (x ∷ xs) k
      go Less p rest = rw (place_less o key x xs k p) ((p, rest.0), rest.1)
      go Equal p rest =
          split_here x xs k (place_here o key x xs k Equal p refl) (ap is_lt p)
          (subst (λ j. Above o key j xs) (o.exact (key x) k p) (before_all o key (key x) xs a.0 a.1))
      go Greater p rest =
          split_here x xs k (place_here o key x xs k Greater p refl) (ap is_lt p)
          (before_all o key k (x ∷ xs) (from_greater o (key x) k p) a).1

  -- ---- whether the key stands
  abbrev Standing : List E → K → Type 0
  Standing es k = (e : E) × Has es e × (key e ≡ k)

  later : (x : E) (xs : List E) (k : K) → Standing xs k → Standing (x ∷ xs) k
  later x xs k s = (s.0, (suc s.1.0, omega (arith, s.1.1), s.1.2), s.2)

  found : (es : List E) (k : K) → has_key o key es k ≡ true → Standing es k
  found [] k h = absurd (true≢false (sym h))
  found (x ∷ xs) k h = go (o.rank (key x) k) refl (found xs k)
    where
      go : (r : Ordering) → o.rank (key x) k ≡ r → (has_key o key xs k ≡ true → Standing xs k) → Standing (x ∷ xs) k
      go Less p rest = later x xs k (rest (sym (has_less o key x xs k p) ∙ h))
      go Equal p rest = (x, (0, omega arith, λ d. refl), o.exact (key x) k p)
      go Greater p rest = absurd (true≢false (sym h ∙ has_here o key x xs k Greater p refl))

  stands : (es : List E) (k : K) → Ascending o key es → Standing es k → has_key o key es k ≡ true
  stands es k a s = go es a s.1.0 s.1.1 s.1.2
    where
      go : (fs : List E) → Ascending o key fs → (i : ℕ) → i < length fs → HoldsAt (λ y. y ≡ s.0) fs i → has_key o key fs k ≡ true
      go [] b i l h = absurd (omega arith)
      go (x ∷ xs) b zero l h = has_here o key x xs k Equal (ap (λ j. o.rank j k) (ap key (h x) ∙ s.2) ∙ same_rank o k) refl
      go (x ∷ xs) b (suc i) l h =
          let low : i < length xs = omega arith in
          let less : o.rank (key x) k ≡ Less = ap (o.rank (key x)) (sym s.2) ∙ all-has (λ e. o.rank (key x) (key e) ≡ Less) xs s.0 (before_all o key (key x) xs b.0 b.1) (i, low, h) in
          has_less o key x xs k less ∙ go xs b.1 i low h

  pub tells : Tells o key
  tells es k a = (found es k, stands es k a)
