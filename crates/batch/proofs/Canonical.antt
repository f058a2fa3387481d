-- A canonical list of terms ascends and its coefficients fit; a term that enters one keeps it so, if every coefficient still fits.
use Rattle.std.proofs.Common.{◌≡◌, true, ◌&&◌, List, [], ◌∷◌, length, ◌≤ℤ◌, refl, ap, lit≤, arith, rules}
use Rattle.std.specs.Ordering.{is_lt}
use Rattle.std.specs.List.{AllByRecursion}
use Rattle.std.proofs.ByRecursion.{All-weaker}
use Rattle.std.proofs.lemmas.Int.{ints}
use Rattle.std.proofs.lemmas.Bool.{and_parts, and_from}
use Rattle.interval.specs.Interval.{Fits, Summable, fits}
use Rattle.interval.proofs.Sizes.{sized_weaken, fits-sized, sized-fits}
use Rattle.polynomial.specs.declared.term.Term.{Term}
use Rattle.polynomial.specs.Reach.{joined, with_term}
use Rattle.polynomial.specs.Terms.{all_fit}
use Rattle.table.specs.Order.{by_degree}
use Rattle.table.specs.Table.{Next, Ascending}
use Rattle.table.proofs.Ascents.{is_less, entered-ascends}
use Rattle.table.proofs.Growth.{all_entered}
use Rattle.batch.specs.Drafts.{fitting, before, canonical}

-- what `fitting` tests
pub record Fitting (t : Term) : Type 0 where
  pub six : length t.monomial ≡ 6
  pub fit : Fits t.coefficient

abbrev pub Rises : List Term → Type 0
Rises ts = Ascending by_degree (λ t. t.monomial) ts

pub fitting_is : (t : Term) → fitting t ≡ true → Fitting t
fitting_is t e = record { six = search rules; fit = fits-sized (search rules) (search rules) }

pub fitting_from : (t : Term) → Fitting t → fitting t ≡ true
fitting_from t f = let e = sized-fits f.fit in search rules

next_is : (t : Term) (ts : List Term) → before t ts ≡ true → Next by_degree (λ u. u.monomial) t.monomial ts
next_is t [] e = tt
next_is t (u ∷ us) e = is_less _ e

next_from : (t : Term) (ts : List Term) → Next by_degree (λ u. u.monomial) t.monomial ts → before t ts ≡ true
next_from t [] n = refl
next_from t (u ∷ us) n = ap is_lt n

pub ascends : (ts : List Term) → canonical ts ≡ true → Rises ts
ascends [] e = tt
ascends (t ∷ ts) e =
    let p = and_parts (fitting t && before t ts) (canonical ts) e in
    (next_is t ts (and_parts (fitting t) (before t ts) p.0).1, ascends ts p.1)

pub fitted : (ts : List Term) → canonical ts ≡ true → AllByRecursion Fitting ts
fitted [] e = tt
fitted (t ∷ ts) e =
    let p = and_parts (fitting t && before t ts) (canonical ts) e in
    (fitting_is t (and_parts (fitting t) (before t ts) p.0).0, fitted ts p.1)

pub canonical_from : (ts : List Term) → Rises ts → AllByRecursion Fitting ts → canonical ts ≡ true
canonical_from [] a f = refl
canonical_from (t ∷ ts) a f =
    and_from (fitting t && before t ts) (canonical ts) (and_from (fitting t) (before t ts) (fitting_from t f.0) (next_from t ts a.0)) (canonical_from ts a.1 f.1)

-- ---- a term that enters

-- six exponents, and an interval
record Shaped (t : Term) : Type 0 where
  pub six : length t.monomial ≡ 6
  pub order : t.coefficient.lower ≤ℤ t.coefficient.upper

shaped : (t : Term) → Fitting t → Shaped t
shaped t f = record { six = f.six; order = f.fit.order }

shaped_joined : (t u : Term) → Shaped t → Shaped u → Shaped (joined t u)
shaped_joined t u a b = let p = a.order in let q = b.order in record { six = a.six; order = omega (arith, ints) }

with_shaped : (ts : List Term) (t : Term) → AllByRecursion Shaped ts → Shaped t → AllByRecursion Shaped (with_term ts t)
with_shaped ts t f s = all_entered by_degree (λ u. u.monomial) joined Shaped Shaped t (λ u h. h) s (λ u h. shaped_joined u t h s) ts f

fitting_all : (ts : List Term) → AllByRecursion Shaped ts → all_fit ts ≡ true → AllByRecursion Fitting ts
fitting_all [] s e = tt
fitting_all (t ∷ ts) s e =
    let p = and_parts (fits t.coefficient) (all_fit ts) e in
    (record { six = s.0.six; fit = fits-sized s.0.order p.0 }, fitting_all ts s.1 p.1)

pub with_term_canonical : (ts : List Term) (t : Term) → canonical ts ≡ true → Fitting t → all_fit (with_term ts t) ≡ true → canonical (with_term ts t) ≡ true
with_term_canonical ts t c f e =
    let rising = entered-ascends by_degree (λ u. u.monomial) joined (λ a b. refl) ts t (ascends ts c) in
    canonical_from (with_term ts t) rising (fitting_all (with_term ts t) (with_shaped ts t (All-weaker Fitting Shaped shaped ts (fitted ts c)) (shaped t f)) e)

-- coefficients that fit can be added
pub joinable : (ts : List Term) (t : Term) → AllByRecursion Fitting ts → Fits t.coefficient → AllByRecursion (λ u. Summable u.coefficient × Summable t.coefficient) ts
joinable ts t f h = All-weaker Fitting (λ u. Summable u.coefficient × Summable t.coefficient) (λ u g. (sized_weaken (lit≤ tt) g.fit, sized_weaken (lit≤ tt) h)) ts f
