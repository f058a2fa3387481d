-- Each key stands once in an ascending list: the entries under a key add up to the one that is found there.
-- Assumes nothing.
use Rattle.std.proofs.Common.{◌≡◌, cond, List, [], ◌∷◌, pos, Ordering, Less, Equal, Greater, sym, refl, ap, ◌∙◌, subst}
use Rattle.std.specs.Ordering.{is_eq, ordering_reverse}
use Rattle.std.specs.List.{AllByRecursion}
use Rattle.table.specs.Order.{Order}
use Rattle.table.specs.Table.{by_rank, entry, Ascending}
use Rattle.table.proofs.Ascents.{before_all}
use Rattle.rational.proofs.Solver.{Ring, lit, ◌⊕◌, ◌≈◌, ring1}
use Rattle.polynomial.proofs.Totals.{total}

-- what two facts of each element give together
pub all_both : {X : Type 0} (P Q R : X → Type 0) → ((x : X) → P x → Q x → R x) → (xs : List X) → AllByRecursion P xs → AllByRecursion Q xs → AllByRecursion R xs
all_both P Q R f [] A B = tt
all_both P Q R f (x ∷ xs) A B = (f x A.0 B.0, all_both P Q R f xs A.1 B.1)

module _ {E K : Type 0} (o : Order K) (key : E → K) where
  -- what holds of all entries, and of d, holds of it
  pub entry_all : (P : E → Type 0) (d : E) (es : List E) (k : K) → P d → AllByRecursion P es → P (entry o key d es k)
  entry_all P d [] k p h = p
  entry_all P d (x ∷ xs) k p h = go (o.rank (key x) k) (entry_all P d xs k p h.1)
    where
      go : (r : Ordering) → P (entry o key d xs k) → P (by_rank r (entry o key d xs k) x d)
      go Less rest = rest
      go Equal rest = h.0
      go Greater rest = p

  module _ (R : Ring) (f : E → Ring.carrier R) where
    open R use {carrier, add, of, zero_add}

    -- f of the entries under k
    abbrev pub under : K → E → carrier
    under k e = cond (is_eq (o.rank (key e) k)) (f e) (of (pos 0))

    none_under : (k : K) (es : List E) → AllByRecursion (λ e. o.rank k (key e) ≡ Less) es → total R (under k) es ≡ of (pos 0)
    none_under k [] h = refl
    none_under k (x ∷ xs) h =
        let g : o.rank (key x) k ≡ Greater = o.flip (key x) k ∙ ap ordering_reverse h.0 in
        ap (λ r. add (cond (is_eq r) (f x) (of (pos 0))) (total R (under k) xs)) g ∙ zero_add (total R (under k) xs) ∙ none_under k xs h.1

    pub one_under : (d : E) (es : List E) (k : K) → f d ≡ of (pos 0) → Ascending o key es → total R (under k) es ≡ f (entry o key d es k)
    one_under d [] k z a = sym z
    one_under d (x ∷ xs) k z a = go (o.rank (key x) k) refl (one_under d xs k z a.1)
      where
        go : (r : Ordering) → o.rank (key x) k ≡ r → total R (under k) xs ≡ f (entry o key d xs k)
            → add (cond (is_eq r) (f x) (of (pos 0))) (total R (under k) xs) ≡ f (by_rank r (entry o key d xs k) x d)
        go Less e rest = zero_add (total R (under k) xs) ∙ rest
        go Equal e rest =
            let n = none_under k xs (subst (λ j. AllByRecursion (λ y. o.rank j (key y) ≡ Less) xs) (o.exact (key x) k e) (before_all o key (key x) xs a.0 a.1)) in
            ap (add (f x)) n ∙ ring1 R (λ v. v ⊕ lit (pos 0) ≈ v) tt (f x)
        go Greater e rest =
            let n = none_under k xs (before_all o key k (x ∷ xs) (o.flip k (key x) ∙ ap ordering_reverse e) a).1 in
            zero_add (total R (under k) xs) ∙ n ∙ sym z
