-- A table grows by one entry or none; what holds of its entries is kept. Assumes nothing.
use Rattle.std.proofs.Common.{◌≡◌, ℕ, zero, suc, ◌+◌, ◌≤◌, Bool, true, false, cond, List, [], ◌∷◌, length, take, fold, Ordering, Less, Equal, Greater, refl, arith}
use Rattle.std.specs.List.{AllByRecursion}
use Rattle.std.proofs.ByRecursion.{All-weaker}
use Rattle.table.specs.Order.{Order}
use Rattle.table.specs.Table.{by_rank, has_key, entered}
use Rattle.table.proofs.Searches.{has_less, has_here}

module _ {E K : Type 0} (o : Order K) (key : E → K) (join : E → E → E) where
  pub length-entered : (ts : List E) (e : E) → length (entered o key join ts e) ≡ length ts + cond (has_key o key ts (key e)) 0 1
  length-entered [] e = refl
  length-entered (x ∷ xs) e = go (o.rank (key x) (key e)) refl (length-entered xs e)
    where
      go : (r : Ordering) → o.rank (key x) (key e) ≡ r → length (entered o key join xs e) ≡ length xs + cond (has_key o key xs (key e)) 0 1
          → length (by_rank r (x ∷ entered o key join xs e) (join x e ∷ xs) (e ∷ x ∷ xs)) ≡ suc (length xs) + cond (has_key o key (x ∷ xs) (key e)) 0 1
      go Less q h = rw (has_less o key x xs (key e) q) (omega (arith, h))
      go Equal q h = rw (has_here o key x xs (key e) Equal q refl) (omega arith)
      go Greater q h = rw (has_here o key x xs (key e) Greater q refl) (omega arith)

  one_or_none : (b : Bool) (n : ℕ) → (n ≤ n + cond b 0 1) × (n + cond b 0 1 ≤ n + 1)
  one_or_none true n = (omega arith, omega arith)
  one_or_none false n = (omega arith, omega arith)

  -- no entry goes, and at most one comes
  pub entered_grows : (ts : List E) (e : E) → length ts ≤ length (entered o key join ts e)
  entered_grows ts e = rw length-entered (one_or_none (has_key o key ts (key e)) (length ts)).0

  pub entered_by_one : (ts : List E) (e : E) → length (entered o key join ts e) ≤ length ts + 1
  entered_by_one ts e = rw length-entered (one_or_none (has_key o key ts (key e)) (length ts)).1

  pub folded_grows : (ts es : List E) → length ts ≤ length (fold (entered o key join) ts es)
  folded_grows ts [] = omega arith
  folded_grows ts (e ∷ es) = omega (arith, entered_grows ts e, folded_grows (entered o key join ts e) es)

  -- a table of some of the entries is no longer than that of all
  pub folded_front : (ts es : List E) (i : ℕ) → length (fold (entered o key join) ts (take i es)) ≤ length (fold (entered o key join) ts es)
  folded_front ts es zero = folded_grows ts es
  folded_front ts [] (suc i) = omega arith
  folded_front ts (e ∷ es) (suc i) = folded_front (entered o key join ts e) es i

  -- what holds of the entries, of the new one and of each of them joined with it holds afterwards
  pub all_entered : (P Q : E → Type 0) (e : E) → ((x : E) → P x → Q x) → Q e → ((x : E) → P x → Q (join x e)) → (ts : List E) → AllByRecursion P ts → AllByRecursion Q (entered o key join ts e)
  all_entered P Q e keep new both [] a = (new, tt)
  all_entered P Q e keep new both (x ∷ xs) a = go (o.rank (key x) (key e)) (all_entered P Q e keep new both xs a.1)
    where
      rest : AllByRecursion Q xs
      rest = All-weaker P Q keep xs a.1

      go : (r : Ordering) → AllByRecursion Q (entered o key join xs e) → AllByRecursion Q (by_rank r (x ∷ entered o key join xs e) (join x e ∷ xs) (e ∷ x ∷ xs))
      go Less h = (keep x a.0, h)
      go Equal h = (both x a.0, rest)
      go Greater h = (new, (keep x a.0, rest))
