-- What a search, a table and monomials promise. Assumes nothing.
use Rattle.std.specs.Prelude.{◌≡◌, ℕ, ◌+◌, ◌<◌, Bool, true, false, cond, List, length, take, drop, Decides, filter, ◌≢◌, slice_index_or}
use Rattle.std.specs.declared.cmp.Ordering.TheVariants.{Less, Equal}
use Rattle.std.specs.Ordering.{is_lt, ordering_reverse}
use Rattle.std.specs.List.{ContainsAt as Has, AllByRecursion}
use Rattle.table.specs.Monomial.{Monomial, degree, even, multiplied, root}
use Rattle.table.specs.Order.{Order}
use Rattle.table.specs.Table.{place, has_key, entry, entered, Ascending}

-- ---- a total order
module _ {K : Type 0} (o : Order K) where
  -- turned round, the answer is turned round
  abbrev pub Turns : Type 0
  Turns = (x y : K) → o.rank x y ≡ ordering_reverse (o.rank y x)

  -- below what is below is below
  abbrev pub Chains : Type 0
  Chains = (x y z : K) → o.rank x y ≡ Less → o.rank y z ≡ Less → o.rank x z ≡ Less

  -- two keys rank equal exactly if they are
  abbrev pub Exact : Type 0
  Exact = (x y : K) → (o.rank x y ≡ Equal → x ≡ y) × (x ≡ y → o.rank x y ≡ Equal)

module _ {E K : Type 0} (o : Order K) (key : E → K) where
  -- ---- a search

  -- the keys before the place are below the one sought, and those from it on are not
  abbrev pub Splits : Type 0
  Splits =
      (es : List E) (k : K) → Ascending o key es
      → AllByRecursion (λ e. o.rank (key e) k ≡ Less) (take (place o key es k) es) × AllByRecursion (λ e. is_lt (o.rank (key e) k) ≡ false) (drop (place o key es k) es)

  -- a key is found exactly if an entry has it
  abbrev pub Tells : Type 0
  Tells = (es : List E) (k : K) → Ascending o key es → Decides (has_key o key es k) ((e : E) × Has es e × (key e ≡ k))

  -- what is read under a key stands at its place
  abbrev pub Reads : Type 0
  Reads = (d : E) (es : List E) (k : K) → entry o key d es k ≡ cond (has_key o key es k) (slice_index_or es (place o key es k) d) d

  -- every key is below every later one, so that none stands twice
  abbrev pub Once : Type 0
  Once = (es : List E) (i j : ℕ) (d : E) → Ascending o key es → i < j → j < length es → o.rank (key (slice_index_or es i d)) (key (slice_index_or es j d)) ≡ Less

  -- ---- entries that go

  -- dropping entries leaves the table ascending
  abbrev pub DropsAscend : Type 0
  DropsAscend = (test : E → Bool) (es : List E) → Ascending o key es → Ascending o key (filter test es)

  -- an entry that passes is read as before, any other no more
  abbrev pub DropsRead : Type 0
  DropsRead =
      (test : E → Bool) (d : E) (es : List E) (k : K) → Ascending o key es
      → entry o key d (filter test es) k ≡ cond (test (entry o key d es k)) (entry o key d es k) d

  -- ---- an entry that comes
  module _ (join : E → E → E) where
    -- the table stays ascending
    abbrev pub StaysAscending : Type 0
    StaysAscending = (es : List E) (e : E) → Ascending o key es → Ascending o key (entered o key join es e)

    -- under its own key stands the old entry with it joined, or it alone
    abbrev pub JoinsOwn : Type 0
    JoinsOwn =
        (d : E) (es : List E) (e : E)
        → entry o key d (entered o key join es e) (key e) ≡ cond (has_key o key es (key e)) (join (entry o key d es (key e)) e) e

    -- under every other key the entry is as it was
    abbrev pub LeavesOthers : Type 0
    LeavesOthers = (d : E) (es : List E) (e : E) (k : K) → (k ≢ key e) → entry o key d (entered o key join es e) k ≡ entry o key d es k

    -- there is one entry more, or none
    abbrev pub Grows : Type 0
    Grows = (es : List E) (e : E) → length (entered o key join es e) ≡ length es + cond (has_key o key es (key e)) 0 1

-- ---- monomials

-- degrees add
abbrev pub DegreesAdd : Type 0
DegreesAdd = (m n : Monomial) → length m ≡ length n → degree (multiplied m n) ≡ degree m + degree n

-- a square is even, and its root is what was squared
abbrev pub SquaresEven : Type 0
SquaresEven = (m : Monomial) → (even (multiplied m m) ≡ true) × (root (multiplied m m) ≡ m)

-- an even monomial is the square of its root
abbrev pub RootsSquare : Type 0
RootsSquare = (m : Monomial) → even m ≡ true → multiplied (root m) (root m) ≡ m
