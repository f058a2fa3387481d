-- What is read under a key, as entries come and go. Assumes nothing.
use Rattle.std.proofs.Common.{◌≡◌, Bool, true, false, cond, List, [], ◌∷◌, get_or, filter, Ordering, Less, Equal, Greater, sym, refl, ap, ◌∙◌, subst}
use Rattle.std.specs.List.{AllByRecursion}
use Rattle.std.proofs.ByRecursion.{all_kept_by}
use Rattle.table.specs.Order.{Order}
use Rattle.table.specs.Table.{by_rank, place, has_key, entry, entered, Ascending}
use Rattle.table.specs.Laws.{Reads, JoinsOwn, LeavesOthers}
use Rattle.table.proofs.Ascents.{same_rank, from_less, from_greater, Above, before_all}
use Rattle.table.proofs.Searches.{place_less, place_here, has_less, has_here}

module _ {E K : Type 0} (o : Order K) (key : E → K) where
  -- by the first entry
  entry_less : (d x : E) (xs : List E) (k : K) → o.rank (key x) k ≡ Less → entry o key d (x ∷ xs) k ≡ entry o key d xs k
  entry_less d x xs k p = rw p refl

  entry_here : (d x : E) (xs : List E) (k : K) → o.rank (key x) k ≡ Equal → entry o key d (x ∷ xs) k ≡ x
  entry_here d x xs k p = rw p refl

  entry_past : (d x : E) (xs : List E) (k : K) → o.rank (key x) k ≡ Greater → entry o key d (x ∷ xs) k ≡ d
  entry_past d x xs k p = rw p refl

  pub entry-above : (d : E) (es : List E) (k : K) → Above o key k es → entry o key d es k ≡ d
  entry-above d [] k h = refl
  entry-above d (x ∷ xs) k h = entry_past d x xs k (from_less o k (key x) h.0)

  -- what is found under k has the key k
  pub entry_key : (d : E) (es : List E) (k : K) → key d ≡ k → key (entry o key d es k) ≡ k
  entry_key d [] k h = h
  entry_key d (x ∷ xs) k h = go (o.rank (key x) k) refl (entry_key d xs k h)
    where
      go : (r : Ordering) → o.rank (key x) k ≡ r → key (entry o key d xs k) ≡ k → key (by_rank r (entry o key d xs k) x d) ≡ k
      go Less e rest = rest
      go Equal e rest = o.exact (key x) k e
      go Greater e rest = h

  -- every entry is found under its key
  pub entry_own : (d : E → E) (es : List E) → Ascending o key es → AllByRecursion (λ e. entry o key (d e) es (key e) ≡ e) es
  entry_own d [] a = tt
  entry_own d (x ∷ xs) a = (entry_here (d x) x xs (key x) (same_rank o (key x)), go xs (before_all o key (key x) xs a.0 a.1) (entry_own d xs a.1))
    where
      go : (ys : List E) → Above o key (key x) ys → AllByRecursion (λ e. entry o key (d e) xs (key e) ≡ e) ys → AllByRecursion (λ e. entry o key (d e) (x ∷ xs) (key e) ≡ e) ys
      go [] l h = tt
      go (y ∷ ys) l h = (entry_less (d y) x xs (key y) l.0 ∙ h.0, go ys l.1 h.1)

  pub reads : Reads o key
  reads d [] k = refl
  reads d (x ∷ xs) k = go (o.rank (key x) k) refl (reads d xs k)
    where
      go : (r : Ordering) → o.rank (key x) k ≡ r → entry o key d xs k ≡ cond (has_key o key xs k) (get_or xs (place o key xs k) d) d
          → entry o key d (x ∷ xs) k ≡ cond (has_key o key (x ∷ xs) k) (get_or (x ∷ xs) (place o key (x ∷ xs) k) d) d
      go Less p rest = entry_less d x xs k p ∙ rest ∙ rw (has_less o key x xs k p, place_less o key x xs k p) refl
      go Equal p rest = entry_here d x xs k p ∙ rw (has_here o key x xs k Equal p refl, place_here o key x xs k Equal p refl) refl
      go Greater p rest = entry_past d x xs k p ∙ rw (has_here o key x xs k Greater p refl) refl

  -- ---- entries that go
  either_way : (b : Bool) (d : E) → d ≡ cond b d d
  either_way true d = refl
  either_way false d = refl

  module _ (test : E → Bool) (d : E) where
    abbrev AsDropped : List E → K → List E → Type 0
    AsDropped es k rest = entry o key d rest k ≡ cond (test (entry o key d es k)) (entry o key d es k) d

    pub drops_read : (es : List E) (k : K) → Ascending o key es → AsDropped es k (filter test es)
    drops_read [] k a = either_way (test d) d
    drops_read (x ∷ xs) k a = go (o.rank (key x) k) refl (test x) refl (drops_read xs k a.1)
      where
        over : (j : K) → Above o key j xs → entry o key d (filter test xs) j ≡ d
        over j h = entry-above d (filter test xs) j (all_kept_by test (λ e. o.rank j (key e) ≡ Less) xs h)

        go : (r : Ordering) → o.rank (key x) k ≡ r → (b : Bool) → test x ≡ b → AsDropped xs k (filter test xs) → AsDropped (x ∷ xs) k (cond b (x ∷ filter test xs) (filter test xs))
        go Less p true q rest = rw (entry_less d x xs k p) (entry_less d x (filter test xs) k p ∙ rest)
        go Less p false q rest = rw (entry_less d x xs k p) rest
        go Equal p true q rest = rw (entry_here d x xs k p, q) (entry_here d x (filter test xs) k p)
        go Equal p false q rest =
            rw (entry_here d x xs k p, q)
            (over k (subst (λ j. Above o key j xs) (o.exact (key x) k p) (before_all o key (key x) xs a.0 a.1)))
        go Greater p true q rest = rw (entry_past d x xs k p) (entry_past d x (filter test xs) k p ∙ either_way (test d) d)
        go Greater p false q rest =
            rw (entry_past d x xs k p)
            (over k (before_all o key k (x ∷ xs) (from_greater o (key x) k p) a).1 ∙ either_way (test d) d)

  -- ---- an entry that comes
  module _ (join : E → E → E) (keeps : (a b : E) → key (join a b) ≡ key a) where
    pub joins_own : JoinsOwn o key join
    joins_own d [] e = entry_here d e [] (key e) (same_rank o (key e))
    joins_own d (x ∷ xs) e = go (o.rank (key x) (key e)) refl (joins_own d xs e)
      where
        go : (r : Ordering) → o.rank (key x) (key e) ≡ r
            → entry o key d (entered o key join xs e) (key e) ≡ cond (has_key o key xs (key e)) (join (entry o key d xs (key e)) e) e
            → entry o key d (by_rank r (x ∷ entered o key join xs e) (join x e ∷ xs) (e ∷ x ∷ xs)) (key e) ≡ cond (has_key o key (x ∷ xs) (key e)) (join (entry o key d (x ∷ xs) (key e)) e) e
        go Less p rest = rw (has_less o key x xs (key e) p, entry_less d x xs (key e) p) (entry_less d x (entered o key join xs e) (key e) p ∙ rest)
        go Equal p rest = rw (has_here o key x xs (key e) Equal p refl, entry_here d x xs (key e) p) (entry_here d (join x e) xs (key e) (ap (λ j. o.rank j (key e)) (keeps x e) ∙ p))
        go Greater p rest = rw (has_here o key x xs (key e) Greater p refl) (entry_here d e (x ∷ xs) (key e) (same_rank o (key e)))

    -- put before entries that are above it
    before-others : (d : E) (es : List E) (e : E) (k : K) → (k ≡ key e → ⊥) → (o.rank (key e) k ≡ Greater → entry o key d es k ≡ d) → entry o key d (e ∷ es) k ≡ entry o key d es k
    before-others d es e k ne past = go (o.rank (key e) k) refl
      where
        go : (r : Ordering) → o.rank (key e) k ≡ r → by_rank r (entry o key d es k) e d ≡ entry o key d es k
        go Less p = refl
        go Equal p = absurd (ne (sym (o.exact (key e) k p)))
        go Greater p = sym (past p)

    pub leaves_others : LeavesOthers o key join
    leaves_others d [] e k ne = before-others d [] e k ne (λ p. refl)
    leaves_others d (x ∷ xs) e k ne = go (o.rank (key x) (key e)) refl (leaves_others d xs e k ne)
      where
        at : (s : Ordering) → o.rank (key x) (key e) ≡ Equal → o.rank (key x) k ≡ s → by_rank s (entry o key d xs k) (join x e) d ≡ by_rank s (entry o key d xs k) x d
        at Less p q = refl
        at Equal p q = absurd (ne (sym (o.exact (key x) k q) ∙ o.exact (key x) (key e) p))
        at Greater p q = refl

        go : (r : Ordering) → o.rank (key x) (key e) ≡ r → entry o key d (entered o key join xs e) k ≡ entry o key d xs k
            → entry o key d (by_rank r (x ∷ entered o key join xs e) (join x e ∷ xs) (e ∷ x ∷ xs)) k ≡ entry o key d (x ∷ xs) k
        go Less p rest = ap (λ y. by_rank (o.rank (key x) k) y x d) rest
        go Equal p rest = ap (λ j. by_rank (o.rank j k) (entry o key d xs k) (join x e) d) (keeps x e) ∙ at (o.rank (key x) k) p refl
        go Greater p rest =
            before-others d (x ∷ xs) e k ne
            (λ q. entry_past d x xs k (from_less o k (key x) (o.trans k (key e) (key x) (from_greater o (key e) k q) (from_greater o (key x) (key e) p))))
