-- What an entry leaves in a slice: the table with it at the front, the rest as it was. Assumes nothing.
use Rattle.std.proofs.Common.{◌≡◌, ℕ, ◌+◌, ◌<◌, ◌≤◌, true, false, leb, Ok, Result, List, ◌++◌, length, get_or, take, drop, set, sym, refl, ap, ◌∙◌, subst, arith}
use Rattle.std.proofs.lemmas.List.Edits.{length-insert}
use Rattle.std.proofs.lemmas.List.{get_or-take, get_or_read, length-set, length-take-le, set-append_left, take-append-drop}
use Rattle.std.proofs.lemmas.Bool.{le-leb, lt-leb}
use Rattle.std.specs.List.{insert}
use Rattle.table.specs.Order.{Order}
use Rattle.table.specs.Table.{place, has_key, sought, entered}
use Rattle.table.specs.Slice.{over}
use Rattle.table.proofs.Places.{entered-placed}
use Rattle.table.proofs.Searches.{there}

module _ {E : Type 0} (slice : List E) (n i : ℕ) (x : E) (room : n ≤ length slice) (low : i < n) (is : x ≡ get_or slice i x) where
  read : (d : E) → get_or (take n slice) i d ≡ x
  read d = get_or-take n slice i d low ∙ sym (get_or_read slice i x (omega arith) is d)

  module _ {K : Type 0} (o : Order K) (key : E → K) (join : E → E → E) (e : E) (is-place : i ≡ place o key (take n slice) (key e)) (found : has_key o key (take n slice) (key e) ≡ true) where
    joined-there : entered o key join (take n slice) e ≡ set (take n slice) i (join x e)
    joined-there = entered-placed o key join (take n slice) e ∙ rw (found, ← is-place) (ap (λ y. set (take n slice) i (join y e)) (read e))

    -- y, the entry at place i with e joined to it, is written there
    pub joins-there : (y : E) → y ≡ join x e → (set slice i y ≡ over (entered o key join (take n slice) e) slice) × (length (entered o key join (take n slice) e) ≡ n)
    joins-there y q =
        let short : i < length (take n slice) = rw length-take-le (low) in
        let long : length (set (take n slice) i (join x e)) ≡ n = length-set (take n slice) i (join x e) ∙ length-take-le n slice room in
        let split : set slice i (join x e) ≡ set (take n slice) i (join x e) ++ drop n slice =
        ap (λ xs. set xs i (join x e)) (sym (take-append-drop n slice)) ∙ set-append_left (take n slice) (drop n slice) i (join x e) short in
        (ap (set slice i) q ∙ split ∙ rw (joined-there, long) refl, ap length joined-there ∙ long)

-- the entry that lies where its key was found
module _ {E K : Type 0} (o : Order K) (key : E → K) (join : E → E → E) (slice : List E) (n i : ℕ) (x e y : E) (k : K) (room : n ≤ length slice) (low : i < n)
    (same : k ≡ key e) (found : ◌≡◌ {A = Result ℕ ℕ} (Ok i) (sought o key (take n slice) k)) (is : x ≡ get_or slice i x) (joined : y ≡ join (get_or slice i x) e) where
  at_key : (i ≡ place o key (take n slice) (key e)) × (has_key o key (take n slice) (key e) ≡ true)
  at_key = subst (λ z. (i ≡ place o key (take n slice) z) × (has_key o key (take n slice) z ≡ true)) same (there o key (take n slice) k i found)

  joins : (set slice i y ≡ over (entered o key join (take n slice) e) slice) × (length (entered o key join (take n slice) e) ≡ n)
  joins = joins-there slice n i x room low is o key join e at_key.0 at_key.1 y (joined ∙ ap (λ z. join z e) (sym is))

  pub joined_after : set slice i y ≡ over (entered o key join (take n slice) e) slice
  joined_after = joins.0

  pub joined_count : n ≡ length (entered o key join (take n slice) e)
  joined_count = sym joins.1

  pub joined_room : true ≡ leb (length (entered o key join (take n slice) e)) (length slice)
  joined_room = sym (le-leb (length (entered o key join (take n slice) e)) (length slice) (omega (arith, joins.1)))

-- an entry whose key does not stand is put at its place
module _ {E K : Type 0} (o : Order K) (key : E → K) (join : E → E → E) (slice : List E) (n i : ℕ) (e : E) (room : n ≤ length slice) (low : i ≤ n) (is-place : i ≡ place o key (take n slice) (key e)) (missing : has_key o key (take n slice) (key e) ≡ false) where
  put-there : entered o key join (take n slice) e ≡ insert (take n slice) i e
  put-there = entered-placed o key join (take n slice) e ∙ rw (missing, ← is-place) refl

  long : length (insert (take n slice) i e) ≡ n + 1
  long = let front = length-take-le n slice room in length-insert (take n slice) i e (omega arith) ∙ ap (λ m. m + 1) front

  pub one_more : length (entered o key join (take n slice) e) ≡ n + 1
  one_more = ap length put-there ∙ long

  pub comes_between : (after : List E) → after ≡ insert (take n slice) i e ++ drop (n + 1) slice → after ≡ over (entered o key join (take n slice) e) slice
  comes_between after is = is ∙ rw (put-there, long) refl

  -- if there is room for it
  pub has_room : (n ≡ length slice → ⊥) → true ≡ leb (length (entered o key join (take n slice) e)) (length slice)
  has_room more = sym (le-leb (length (entered o key join (take n slice) e)) (length slice) (omega (arith, one_more)))

  pub no_room : n ≡ length slice → false ≡ leb (length (entered o key join (take n slice) e)) (length slice)
  no_room full = sym (lt-leb (length (entered o key join (take n slice) e)) (length slice) (omega (arith, one_more)))
