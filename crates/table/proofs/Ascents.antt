-- Ascending tables: every key is below all later ones, as entries come and go. Assumes nothing.
use Rattle.std.proofs.Common.{◌≡◌, zero, suc, Bool, true, false, cond, List, [], ◌∷◌, filter, Ordering, Less, Equal, Greater, sym, refl, ap, ◌∙◌, subst, true≢false, arith}
use Rattle.std.specs.Ordering.{is_lt, is_gt, is_eq, ordering_reverse}
use Rattle.std.specs.List.{AllByRecursion}
use Rattle.std.proofs.ByRecursion.{All-get_or, all_kept_by}
use Rattle.table.specs.Order.{Order}
use Rattle.table.specs.Table.{by_rank, entered, Next, Ascending}
use Rattle.table.specs.Laws.{Once, StaysAscending, DropsAscend}

pub is_less : (r : Ordering) → is_lt r ≡ true → r ≡ Less
is_less Less e = refl
is_less Equal e = absurd (true≢false (sym e))
is_less Greater e = absurd (true≢false (sym e))

module _ {K : Type 0} (o : Order K) where
  pub same_rank : (k : K) → o.rank k k ≡ Equal
  same_rank k = go (o.rank k k) (o.flip k k)
    where
      go : (r : Ordering) → r ≡ ordering_reverse r → r ≡ Equal
      go Less e = absurd (true≢false (ap is_lt e))
      go Equal e = refl
      go Greater e = absurd (true≢false (ap is_gt e))

  pub equal_keys : (j k : K) → is_eq (o.rank j k) ≡ true → j ≡ k
  equal_keys j k = go (o.rank j k) refl
    where
      go : (r : Ordering) → o.rank j k ≡ r → is_eq r ≡ true → j ≡ k
      go Less e h = absurd (true≢false (sym h))
      go Equal e h = o.exact j k e
      go Greater e h = absurd (true≢false (sym h))

  -- turned round
  pub from_less : (j k : K) → o.rank j k ≡ Less → o.rank k j ≡ Greater
  from_less j k h = o.flip k j ∙ ap ordering_reverse h

  pub from_greater : (j k : K) → o.rank j k ≡ Greater → o.rank k j ≡ Less
  from_greater j k h = o.flip k j ∙ ap ordering_reverse h

module _ {E K : Type 0} (o : Order K) (key : E → K) where
  -- all keys of es are above k
  abbrev pub Above : K → List E → Type 0
  Above k es = AllByRecursion (λ e. o.rank k (key e) ≡ Less) es

  -- what comes before the first comes before all
  pub before_all : (k : K) (es : List E) → Next o key k es → Ascending o key es → Above k es
  before_all k [] n a = tt
  before_all k (x ∷ xs) n a = (n, before_all k xs (next xs a.0) a.1)
    where
      next : (ys : List E) → Next o key (key x) ys → Next o key k ys
      next [] m = tt
      next (y ∷ ys) m = o.trans k (key x) (key y) n m

  next_of : (k : K) (es : List E) → Above k es → Next o key k es
  next_of k [] h = tt
  next_of k (x ∷ xs) h = h.0

  pub once : Once o key
  once [] i j d a l h = absurd (omega arith)
  once (x ∷ xs) i zero d a l h = absurd (omega arith)
  once (x ∷ xs) zero (suc j) d a l h = All-get_or (λ e. o.rank (key x) (key e) ≡ Less) xs j d (omega arith) (before_all (key x) xs a.0 a.1)
  once (x ∷ xs) (suc i) (suc j) d a l h = once xs i j d a.1 (omega arith) (omega arith)

  -- ---- entries that go
  pub drops_ascend : DropsAscend o key
  drops_ascend test [] a = tt
  drops_ascend test (x ∷ xs) a = go (test x) (drops_ascend test xs a.1)
    where
      go : (b : Bool) → Ascending o key (filter test xs) → Ascending o key (cond b (x ∷ filter test xs) (filter test xs))
      go true rest = (next_of (key x) (filter test xs) (all_kept_by test (λ e. o.rank (key x) (key e) ≡ Less) xs (before_all (key x) xs a.0 a.1)), rest)
      go false rest = rest

  -- ---- an entry that comes
  module _ (join : E → E → E) (keeps : (a b : E) → key (join a b) ≡ key a) where
    next_entered : (k : K) (xs : List E) (e : E) → o.rank k (key e) ≡ Less → Next o key k xs → Next o key k (entered o key join xs e)
    next_entered k [] e h n = h
    next_entered k (x ∷ xs) e h n = go (o.rank (key x) (key e))
      where
        go : (r : Ordering) → Next o key k (by_rank r (x ∷ entered o key join xs e) (join x e ∷ xs) (e ∷ x ∷ xs))
        go Less = n
        go Equal = ap (o.rank k) (keeps x e) ∙ n
        go Greater = h

    pub entered-ascends : StaysAscending o key join
    entered-ascends [] e a = (tt, tt)
    entered-ascends (x ∷ xs) e a = go (o.rank (key x) (key e)) refl (entered-ascends xs e a.1)
      where
        go : (r : Ordering) → o.rank (key x) (key e) ≡ r → Ascending o key (entered o key join xs e) → Ascending o key (by_rank r (x ∷ entered o key join xs e) (join x e ∷ xs) (e ∷ x ∷ xs))
        go Less p rest = (next_entered (key x) xs e p a.0, rest)
        go Equal p rest = (subst (λ k. Next o key k xs) (sym (keeps x e)) a.0, a.1)
        go Greater p rest = (from_greater o (key x) (key e) p, a)
