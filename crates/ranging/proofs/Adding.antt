-- Sums over the terms, end by end: one term more, and all of them. Assumes nothing.
use Rattle.std.proofs.Common.{◌≡◌, ℕ, ◌+◌, ◌*◌, ◌^◌, ◌<◌, ◌≤◌, List, [], ◌∷◌, length, get_or, drop, sym, refl, ap, ◌∙◌, subst, ap₂, lit≤, arith}
use lib.IntN.{+ℤ_idr, +ℤ_assoc}
use Rattle.std.proofs.ByRecursion.{All-weaker, All-get_or}
use Rattle.std.proofs.lemmas.List.{at_drop_more, at_drop_all}
use Rattle.interval.specs.declared.marks.Interval.{Interval}
use Rattle.interval.specs.Interval.{interval, zero_interval, plus, Sized, Summable}
use Rattle.interval.proofs.Sizes.{sized_weaken, sized-plus}
use Rattle.polynomial.specs.declared.term.Term.{Term}
use Rattle.polynomial.specs.Reach.{reach}
use Rattle.polynomial.specs.Method.{FitTerm, Polynomial, plain}
use Rattle.polynomial.proofs.Coefficients.{unread}
use Rattle.polynomial.proofs.Reaches.{sized-reach}
use Rattle.ranging.specs.Addable.{Addable}

plus-assoc : (i j k : Interval) → plus (plus i j) k ≡ plus i (plus j k)
plus-assoc i j k = ap₂ interval (+ℤ_assoc i.lower j.lower k.lower) (+ℤ_assoc i.upper j.upper k.upper)

plus-zero : (i : Interval) → plus i zero_interval ≡ i
plus-zero i = ap₂ interval (+ℤ_idr i.lower) (+ℤ_idr i.upper)

-- a sum of so many parts stays small
pub more_sized : (i : ℕ) {sum r : Interval} → Sized (2 ^ 48 * i) sum → Sized (2 ^ 48) r → Sized (2 ^ 48 * (i + 1)) (plus sum r)
more_sized i s t = sized_weaken (omega arith) (sized-plus s t)

pub few_sized : (i : ℕ) {sum : Interval} → i ≤ 40 → Sized (2 ^ 48 * i) sum → Summable sum
few_sized i h s = sized_weaken (omega arith) s

module _ (f : Term → Interval) (F : List Term → Interval) (none : F [] ≡ zero_interval) (cons : (t : Term) (ts : List Term) → F (t ∷ ts) ≡ plus (f t) (F ts)) where
  -- the sum so far with what is left stays the whole sum
  pub added : (ts : List Term) (i : ℕ) (sum r : Interval) → i < length ts → r ≡ f (get_or ts i unread) → plus sum (F (drop i ts)) ≡ F ts → plus (plus sum r) (F (drop (i + 1) ts)) ≡ F ts
  added ts i sum r h e so_far =
      let rest = F (drop (i + 1) ts) in
      let more : F (drop i ts) ≡ plus r rest = at_drop_more F ts i unread h ∙ cons (get_or ts i unread) (drop (i + 1) ts) ∙ ap (λ x. plus x rest) (sym e) in
      plus-assoc sum r rest ∙ ap (plus sum) (sym more) ∙ so_far

  -- at the end it is the whole sum
  pub all_added : (ts : List Term) (i : ℕ) (sum : Interval) → length ts ≤ i → plus sum (F (drop i ts)) ≡ F ts → sum ≡ F ts
  all_added ts i sum h so_far =
      let end : F (drop i ts) ≡ zero_interval = at_drop_all F ts i h ∙ none in
      sym (plus-zero sum) ∙ ap (plus sum) (sym end) ∙ so_far

-- ---- the plain range
plain_none : plain [] ≡ zero_interval
unfolding plain
plain_none = refl

plain_cons : (t : Term) (ts : List Term) → plain (t ∷ ts) ≡ plus (reach t.monomial t.coefficient) (plain ts)
unfolding plain
plain_cons t ts = refl

pub term-sized : (ts : List Term) (i : ℕ) → i < length ts → Addable ts → Sized (2 ^ 48) (get_or ts i unread).coefficient
term-sized ts i h a = All-get_or (λ t. Sized (2 ^ 48) t.coefficient) ts i unread h a.sized

pub plain-sized : (ts : List Term) (i : ℕ) (r : Interval) → i < length ts → Addable ts → r ≡ reach (get_or ts i unread).monomial (get_or ts i unread).coefficient → Sized (2 ^ 48) r
plain-sized ts i r h a e = subst (Sized (2 ^ 48)) (sym e) (sized-reach (get_or ts i unread).monomial (term-sized ts i h a))

pub plain_more : (ts : List Term) (i : ℕ) (sum r : Interval) → i < length ts → r ≡ reach (get_or ts i unread).monomial (get_or ts i unread).coefficient → plus sum (plain (drop i ts)) ≡ plain ts → plus (plus sum r) (plain (drop (i + 1) ts)) ≡ plain ts
plain_more = added (λ t. reach t.monomial t.coefficient) plain plain_none plain_cons

pub plain_all : (ts : List Term) (i : ℕ) (sum : Interval) → length ts ≤ i → plus sum (plain (drop i ts)) ≡ plain ts → sum ≡ plain ts
plain_all = all_added (λ t. reach t.monomial t.coefficient) plain plain_none plain_cons

pub fit_addable : {ts : List Term} → Polynomial ts → Addable ts
fit_addable {ts} p = record { few = p.few; sized = All-weaker FitTerm (λ t. Sized (2 ^ 48) t.coefficient) (λ t f. sized_weaken (lit≤ tt) f.fit) ts p.fit }
