-- Ascending tables: one entry a key. Assumes nothing.
use Rattle.std.specs.Prelude.{◌≡◌, ℕ, Bool, false, cond, List, [], ◌∷◌, drop, Ok, Err, Result}
use Rattle.std.specs.declared.cmp.Ordering.TheVariants.{Less, Equal, Greater}
use Rattle.std.specs.declared.cmp.Ordering.{Ordering}
use Rattle.std.specs.Ordering.{is_lt, is_eq}
use Rattle.std.specs.List.{prefix_len}
use Rattle.table.specs.Order.{Order}

-- the first, the second or the third, by a rank
abbrev pub by_rank : {A : Type 0} → Ordering → A → A → A → A
by_rank Less a b c = a
by_rank Equal a b c = b
by_rank Greater a b c = c

module _ {E K : Type 0} (o : Order K) (key : E → K) where
  -- the place of the first entry whose key is not below k
  abbrev pub place : List E → K → ℕ
  place es k = prefix_len (λ e. is_lt (o.rank (key e) k)) es

  -- the first entry has the key k
  abbrev pub first_is : K → List E → Bool
  first_is k [] = false
  first_is k (x ∷ xs) = is_eq (o.rank (key x) k)

  -- an entry lies under the key k
  abbrev pub has_key : List E → K → Bool
  has_key es k = first_is k (drop (place es k) es)

  -- the place of the key k: where it stands, or where it would come
  abbrev pub sought : List E → K → Result ℕ ℕ
  sought es k = cond (has_key es k) (Ok (place es k)) (Err (place es k))

  -- the entry under k, or d
  abbrev pub entry : E → List E → K → E
  entry d [] k = d
  entry d (x ∷ xs) k = by_rank (o.rank (key x) k) (entry d xs k) x d

  -- e enters: it joins the entry of its key, or takes its place between its neighbours
  abbrev pub entered : (E → E → E) → List E → E → List E
  entered join [] e = e ∷ []
  entered join (x ∷ xs) e = by_rank (o.rank (key x) (key e)) (x ∷ entered join xs e) (join x e ∷ xs) (e ∷ x ∷ xs)

  -- k is below the first key
  abbrev pub Next : K → List E → Type 0
  Next k [] = Unit {0}
  Next k (y ∷ ys) = o.rank k (key y) ≡ Less

  -- every key is below the next one
  abbrev pub Ascending : List E → Type 0
  Ascending [] = Unit {0}
  Ascending (x ∷ xs) = Next (key x) xs × Ascending xs
