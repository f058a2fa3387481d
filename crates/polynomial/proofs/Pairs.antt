-- The pairs of a linear and a square term of one variable: n is linear with the square m exactly if m is a square with the root n.
-- Assumes nothing.
use Rattle.std.proofs.Common.{◌≡◌, Bool, true, false, ◌&&◌, eqb, List, sym, refl, ap, ◌∙◌, arith}
use Rattle.std.specs.List.{AllByRecursion}
use Rattle.std.specs.Ordering.{is_eq}
use Rattle.std.proofs.ByRecursion.{All-weaker}
use Rattle.std.proofs.lemmas.Bool.{eqb-true, eq-eqb, and_parts, and_from}
use Rattle.interval.specs.Interval.{zero_interval}
use Rattle.table.specs.Monomial.{Monomial, degree, multiplied, even, root}
use Rattle.table.specs.Order.{by_degree}
use Rattle.table.specs.Table.{entry, Ascending}
use Rattle.polynomial.specs.declared.term.Term.{Term}
use Rattle.polynomial.specs.Reach.{term, coefficient_at}
use Rattle.polynomial.specs.Quadratic.{point, paired}
use Rattle.table.proofs.Ascents.{same_rank, equal_keys}
use Rattle.table.proofs.Readings.{entry_key, entry_own}
use Rattle.table.proofs.Monomials.{degree-product, even-square, root-square, square-root}

abbrev pub monomial_of : Term → Monomial
monomial_of t = t.monomial

-- the term of a monomial, [0, 0] where there is none
abbrev pub term-at : List Term → Monomial → Term
term-at ts m = entry by_degree monomial_of (term m zero_interval) ts m

-- what a term of an ascending list is known by
abbrev pub Own : List Term → Term → Type 0
Own ts t = coefficient_at ts t.monomial ≡ t.coefficient

pub all_own : (ts : List Term) → Ascending by_degree monomial_of ts → AllByRecursion (Own ts) ts
all_own ts a = All-weaker _ (Own ts) (λ t e. ap (λ u. u.coefficient) e) ts (entry_own by_degree monomial_of (λ t. term t.monomial zero_interval) ts a)

-- a·u² and b·u
pub record Pair (square linear : Term) : Type 0 where
  pub squared : square.monomial ≡ multiplied linear.monomial linear.monomial
  pub unit : degree linear.monomial ≡ 1
  pub square-point : point square.coefficient ≡ true
  pub linear-point : point linear.coefficient ≡ true

-- the monomial of a square
abbrev pub square : Monomial → Bool
square m = eqb (degree m) 2 && even m

pub root-linear : (m : Monomial) → degree m ≡ 2 → even m ≡ true → degree (root m) ≡ 1
root-linear m d e = omega (arith, degree-product (root m) (root m) refl, ap degree (square-root m e))

square_of : (n : Monomial) → degree n ≡ 1 → square (multiplied n n) ≡ true
square_of n h = and_from (eqb (degree (multiplied n n)) 2) (even (multiplied n n)) (eq-eqb (degree (multiplied n n)) 2 (omega (arith, degree-product n n refl))) (even-square n)

-- ---- both ways
same_test : (a b : Bool) → (a ≡ true → b ≡ true) → (b ≡ true → a ≡ true) → a ≡ b
same_test true b f g = sym (f refl)
same_test false true f g = g refl
same_test false false f g = refl

-- m is n·n with n linear, exactly if m is a square with the root n
abbrev pub same : Monomial → Monomial → Bool
same m n = is_eq (by_degree.rank m n)

same_refl : {m n : Monomial} → m ≡ n → same m n ≡ true
same_refl {m} {n} e = rw e (ap is_eq (same_rank by_degree n))

pub square_or_root : (n m : Monomial) (b : Bool) → (same m (multiplied n n) && (eqb (degree n) 1 && b)) ≡ (same n (root m) && (square m && b))
square_or_root n m b = same_test (same m (multiplied n n) && (eqb (degree n) 1 && b)) (same n (root m) && (square m && b))
    (λ h.
    let f = and_parts (same m (multiplied n n)) (eqb (degree n) 1 && b) h in
    let g = and_parts (eqb (degree n) 1) b f.1 in
    let e = equal_keys by_degree m (multiplied n n) f.0 in
    and_from (same n (root m)) (square m && b) (same_refl (sym (ap root e ∙ root-square n)))
    (and_from (square m) b (rw e (square_of n (eqb-true (degree n) 1 g.0))) g.1))
    (λ h.
    let f = and_parts (same n (root m)) (square m && b) h in
    let g = and_parts (square m) b f.1 in
    let k = and_parts (eqb (degree m) 2) (even m) g.0 in
    let e = equal_keys by_degree n (root m) f.0 in
    and_from (same m (multiplied n n)) (eqb (degree n) 1 && b) (same_refl (sym (ap (λ x. multiplied x x) e ∙ square-root m k.1)))
    (and_from (eqb (degree n) 1) b (eq-eqb (degree n) 1 (ap degree e ∙ root-linear m (eqb-true (degree m) 2 k.0) k.1)) g.1))

pub pair_of : (ts : List Term) (t : Term) → Own ts t → (eqb (degree t.monomial) 2 && (even t.monomial && paired ts (root t.monomial))) ≡ true → Pair t (term-at ts (root t.monomial))
pair_of ts t own h =
    let m = t.monomial in
    let f = and_parts (eqb (degree m) 2) (even m && paired ts (root m)) h in
    let g = and_parts (even m) (paired ts (root m)) f.1 in
    let k = and_parts (point (coefficient_at ts (root m))) (point (coefficient_at ts (multiplied (root m) (root m)))) g.1 in
    let r = square-root m g.0 in
    let e = entry_key by_degree monomial_of (term (root m) zero_interval) ts (root m) refl in
    record {
      squared = sym r ∙ ap (λ x. multiplied x x) (sym e);
      unit = ap degree e ∙ root-linear m (eqb-true (degree m) 2 f.0) g.0;
      square-point = ap point (sym own ∙ ap (coefficient_at ts) (sym r)) ∙ k.1;
      linear-point = k.0;
    }
