-- Which monomials are gathered is told by those of the pairs alone, whatever their hulls, and they only grow in number.
-- Assumes nothing.
use Rattle.std.proofs.Common.{◌≡◌, ℕ, zero, suc, ◌≤◌, Bool, true, false, cond, leb, List, [], ◌∷◌, map, length, take, fold, Ordering, Less, Equal, Greater, sym, refl, ap, ◌∙◌, arith}
use Rattle.interval.specs.Kind.{KindMeaning}
use Rattle.table.specs.Monomial.{Monomial, degree}
use Rattle.table.specs.Order.{Order, by_degree}
use Rattle.table.specs.Table.{by_rank, entered}
use Rattle.table.proofs.Growth.{entered_grows}
use Rattle.polynomial.specs.declared.term.Term.{Term}
use Rattle.polynomial.specs.Reach.{term, joined}
use Rattle.taylor.specs.Model.{Model, zero_model}
use Rattle.taylor.specs.Product.{kept, keep, cut, gather}
use Rattle.taylor.specs.Keeping.{MonomialsGathered, FrontsGathered}

module _ {E K : Type 0} (o : Order K) (key : E → K) (join : E → E → E) (keeps : (x e : E) → key (join x e) ≡ key x) where
  -- the keys of a table with one more entry
  keys_entered : (es : List E) (e : E) → map key (entered o key join es e) ≡ entered o (λ k. k) (λ x y. x) (map key es) (key e)
  keys_entered [] e = refl
  keys_entered (x ∷ xs) e = go (o.rank (key x) (key e)) (keys_entered xs e)
    where
      go : (r : Ordering) → map key (entered o key join xs e) ≡ entered o (λ k. k) (λ x y. x) (map key xs) (key e)
          → map key (by_rank r (x ∷ entered o key join xs e) (join x e ∷ xs) (e ∷ x ∷ xs)) ≡ by_rank r (key x ∷ entered o (λ k. k) (λ x y. x) (map key xs) (key e)) (key x ∷ map key xs) (key e ∷ key x ∷ map key xs)
      go Less h = ap {B = List K} (λ ks. key x ∷ ks) h
      go Equal h = ap {B = List K} (λ k. k ∷ map key xs) (keeps x e)
      go Greater h = refl

abbrev monomials : List Term → List Monomial
monomials ts = map (λ t. t.monomial) ts

module _ (k : KindMeaning) (order : ℕ) where
  -- the monomials after one more pair
  abbrev counted : List Monomial → Monomial → List Monomial
  counted ms n = cond (leb (degree n) order) (entered by_degree (λ k. k) (λ x y. x) ms n) ms

  one_counted : (M : Model) (t : Term) → monomials (gather k order M t).terms ≡ counted (monomials M.terms) t.monomial
  one_counted M t = go (kept order t)
    where
      go : (b : Bool) → monomials (cond b (keep k M t) (cut M t)).terms ≡ cond b (entered by_degree (λ k. k) (λ x y. x) (monomials M.terms) t.monomial) (monomials M.terms)
      go true = keys_entered by_degree (λ u. u.monomial) joined (λ x e. refl) M.terms (term t.monomial (k.split t.coefficient).0)
      go false = refl

  all_counted : (ts : List Term) (M : Model) → monomials (fold (gather k order) M ts).terms ≡ fold counted (monomials M.terms) (monomials ts)
  all_counted [] M = refl
  all_counted (t ∷ ts) M = all_counted ts _ ∙ ap (λ ms. fold counted ms (monomials ts)) (one_counted M t)

  pub monomials_gathered : MonomialsGathered k order
  monomials_gathered ps qs e = all_counted ps zero_model ∙ ap (fold counted []) e ∙ sym (all_counted qs zero_model)

  -- no term goes
  pub one_grows : (M : Model) (t : Term) → length M.terms ≤ length (gather k order M t).terms
  one_grows M t = go (kept order t)
    where
      go : (b : Bool) → length M.terms ≤ length (cond b (keep k M t) (cut M t)).terms
      go true = entered_grows by_degree (λ u. u.monomial) joined M.terms (term t.monomial (k.split t.coefficient).0)
      go false = omega arith

  gathered_grows : (ts : List Term) (M : Model) → length M.terms ≤ length (fold (gather k order) M ts).terms
  gathered_grows [] M = omega arith
  gathered_grows (t ∷ ts) M = omega (arith, one_grows M t, gathered_grows ts (gather k order M t))

  front_gathered : (ts : List Term) (i : ℕ) (M : Model) → length (fold (gather k order) M (take i ts)).terms
      ≤ length (fold (gather k order) M ts).terms
  front_gathered ts zero M = gathered_grows ts M
  front_gathered [] (suc i) M = omega arith
  front_gathered (t ∷ ts) (suc i) M = front_gathered ts i (gather k order M t)

  pub fronts_gathered : FrontsGathered k order
  fronts_gathered ps i = front_gathered ps i zero_model
