-- Where a key stands or would come, by the first entry, and as a search answers it. Assumes nothing.
use Rattle.std.proofs.Common.{◌≡◌, ℕ, suc, Bool, true, false, cond, Ok, Err, Result, List, ◌∷◌, drop, Ordering, Less, refl, ap, ◌∙◌, one-add}
use Rattle.std.specs.Ordering.{is_lt, is_eq}
use Rattle.table.specs.Order.{Order}
use Rattle.table.specs.Table.{place, first_is, has_key, sought}

module _ {E K : Type 0} (o : Order K) (key : E → K) where
  -- by the first entry
  pub place_less : (x : E) (xs : List E) (k : K) → o.rank (key x) k ≡ Less → place o key (x ∷ xs) k ≡ suc (place o key xs k)
  place_less x xs k h = rw (h, one-add) refl

  pub place_here : (x : E) (xs : List E) (k : K) (r : Ordering) → o.rank (key x) k ≡ r → is_lt r ≡ false → place o key (x ∷ xs) k ≡ 0
  place_here x xs k r h n = rw (h, n) refl

  pub has_less : (x : E) (xs : List E) (k : K) → o.rank (key x) k ≡ Less → has_key o key (x ∷ xs) k ≡ has_key o key xs k
  has_less x xs k h = ap (λ n. first_is o key k (drop n (x ∷ xs))) (place_less x xs k h)

  pub has_here : (x : E) (xs : List E) (k : K) (r : Ordering) → o.rank (key x) k ≡ r → is_lt r ≡ false → has_key o key (x ∷ xs) k ≡ is_eq r
  has_here x xs k r h n = ap (λ p. first_is o key k (drop p (x ∷ xs))) (place_here x xs k r h n) ∙ ap is_eq h

-- a place that is answered is the key's, and the answer says whether the key stands there
there_by : (b : Bool) (p i : ℕ) → ◌≡◌ {A = Result ℕ ℕ} (Ok i) (cond b (Ok p) (Err p)) → (i ≡ p) × (b ≡ true)
there_by true p i e = (cc, refl)
there_by false p i e = absurd (cc)

missing_by : (b : Bool) (p i : ℕ) → ◌≡◌ {A = Result ℕ ℕ} (Err i) (cond b (Ok p) (Err p)) → b ≡ false
missing_by true p i e = absurd (cc)
missing_by false p i e = refl

module _ {E K : Type 0} (o : Order K) (key : E → K) (es : List E) (k : K) (i : ℕ) where
  pub there : ◌≡◌ {A = Result ℕ ℕ} (Ok i) (sought o key es k) → (i ≡ place o key es k) × (has_key o key es k ≡ true)
  there e = there_by (has_key o key es k) (place o key es k) i e

  pub missing : ◌≡◌ {A = Result ℕ ℕ} (Err i) (sought o key es k) → has_key o key es k ≡ false
  missing e = missing_by (has_key o key es k) (place o key es k) i e
