-- The results of operations are in form: each is a draft from which [0, 0] is dropped. Assumes nothing.
use Rattle.std.proofs.Common.{◌≡◌, ℕ, zero, suc, ◌*◌, ◌<◌, ◌≤◌, false, ◌&&◌, eqb, List, [], ◌∷◌, map, length, ℤ, pos, negsuc, neg_ℤ, nat_abs, Ok, Less, refl, ◌∙◌, ap₂, mul-le-mul, arith}
use mathlib.Core.Bool.{and_comm}
use lib.ListN.{length-map}
use Rattle.std.specs.List.{AllByRecursion}
use Rattle.std.proofs.ByRecursion.{All-weaker, All-map}
use Rattle.std.proofs.lemmas.Int.{ints}
use Rattle.interval.specs.declared.marks.Interval.{Interval}
use Rattle.interval.specs.declared.variable.Variable.{Variable}
use Rattle.interval.specs.Interval.{limit, Bounded, Sized, Fits, interval, zero_interval, is_zero, plus, negated}
use Rattle.interval.specs.Kind.{KindMeaning, twice_limit}
use Rattle.interval.proofs.Sizes.{sized_zero, sized-point, sized_weaken, sized-plus, sized-negated, fits-sized}
use Rattle.table.specs.Monomial.{Monomial, constant_monomial, linear, degree}
use Rattle.table.specs.Order.{by_degree}
use Rattle.table.specs.Table.{Next, Ascending}
use Rattle.polynomial.specs.declared.term.Term.{Term}
use Rattle.polynomial.specs.Reach.{term, joins}
use Rattle.polynomial.specs.Method.{MethodMeaning}
use Rattle.taylor.specs.Model.{Model, zero_model}
use Rattle.taylor.specs.Form.{NormalTerm, Normal, Formed, DraftTerm, Draft}
use Rattle.taylor.specs.Arithmetic.{constant, variable_model, opposite, negated_model, sum, difference}
use Rattle.taylor.specs.Product.{pairs, gathered, product}
use Rattle.taylor.specs.Keeping.{room, JoinsKeep, GatheringKeeps}
use Rattle.taylor.proofs.Made.{sum_made, product_made}
use Rattle.polynomial.proofs.Standing.{all_both}
use Rattle.taylor.proofs.Sizes.{scale-above, times-order}
use Rattle.taylor.proofs.Drafts.{Six, draft_more, draft-joins, length_pairs, pairs-six, pairs_ordered, all_fit_in, gather_all, draft_formed}

-- ---- constants and variables
pub constant_formed : (k : KindMeaning) (i : Interval) → Fits i → Formed 0 twice_limit (constant k i)
unfolding constant
constant_formed k i f =
    let s = k.splits i f in
    draft_formed (term constant_monomial (k.split i).0 ∷ []) (k.split i).1
    (record { ascends = (tt, tt); each = (record { six = refl; low = omega arith; sized = sized_weaken (omega arith) s.coefficient }, tt) }) (omega arith) s.leftover

after-constant : (n : ℕ) → n < 6 → (by_degree.rank constant_monomial (linear n) ≡ Less) × (length (linear n) ≡ 6) × (degree (linear n) ≤ 1)
after-constant zero h = (refl, refl, omega arith)
after-constant (suc zero) h = (refl, refl, omega arith)
after-constant (suc (suc zero)) h = (refl, refl, omega arith)
after-constant (suc (suc (suc zero))) h = (refl, refl, omega arith)
after-constant (suc (suc (suc (suc zero)))) h = (refl, refl, omega arith)
after-constant (suc (suc (suc (suc (suc zero))))) h = (refl, refl, omega arith)
after-constant (suc (suc (suc (suc (suc (suc n)))))) h = absurd (omega arith)

pub variable_formed : (n b : ℕ) (v : Variable) → n < 6 → Bounded b v.centre → Bounded b v.half → Formed 1 b (variable_model n v)
unfolding variable_model
variable_formed n b v h c w =
    let a = after-constant n h in
    draft_formed (term constant_monomial (interval v.centre v.centre) ∷ (term (linear n) (interval v.half v.half) ∷ [])) zero_interval
    (record { ascends = (a.0, (tt, tt)); each = (record { six = refl; low = omega arith; sized = sized-point c }, (record { six = a.1; low = a.2; sized = sized-point w }, tt)) }) (omega arith) (sized_zero b)

-- ---- sums
opposite_next : (m : Monomial) (ts : List Term) → Next by_degree (λ (t : Term). t.monomial) m ts → Next by_degree (λ (t : Term). t.monomial) m (map opposite ts)
opposite_next m [] n = tt
opposite_next m (t ∷ ts) n = n

opposite-ascends : (ts : List Term) → Ascending by_degree (λ (t : Term). t.monomial) ts → Ascending by_degree (λ (t : Term). t.monomial) (map opposite ts)
opposite-ascends [] A = tt
opposite-ascends (t ∷ ts) A = (opposite_next t.monomial ts A.0, opposite-ascends ts A.1)

abs_neg : (z : ℤ) → nat_abs (neg_ℤ z) ≡ nat_abs z
abs_neg (pos zero) = refl
abs_neg (pos (suc n)) = refl
abs_neg (negsuc n) = refl

opposite_zero : (i : Interval) → is_zero i ≡ false → is_zero (negated i) ≡ false
opposite_zero i e = ap₂ (λ a b. eqb a 0 && eqb b 0) (abs_neg i.upper) (abs_neg i.lower) ∙ and_comm (eqb (nat_abs i.upper) 0) (eqb (nat_abs i.lower) 0) ∙ e

pub negated_formed : (d n : ℕ) (M : Model) → Formed d n M → Formed d n (negated_model M)
negated_formed d n M F =
    let N = F.normal in
    let ts = M.terms in
    record {
      normal = record {
        few = rw length-map N.few;
        ascends = opposite-ascends ts N.ascends;
        each = All-map NormalTerm opposite ts (All-weaker NormalTerm (λ t. NormalTerm (opposite t)) (λ t h. record { six = h.six; order = omega (arith, ints); some = opposite_zero t.coefficient h.some }) ts N.each);
        order = omega (arith, ints);
      };
      degrees = All-map (λ t. degree t.monomial ≤ d) opposite ts F.degrees;
      sized = record {
        coefficients = All-map (λ t. Sized n t.coefficient) opposite ts (All-weaker (λ t. Sized n t.coefficient) (λ t. Sized n (negated t.coefficient)) (λ t s. sized-negated s) ts F.sized.coefficients);
        remainder = sized-negated F.sized.remainder;
      };
    }

-- a formed model's terms, as a draft
pub formed_draft : {d n : ℕ} {M : Model} → Formed d n M → Draft d n M.terms
formed_draft {d} {n} {M} F =
    let ts = M.terms in
    record {
      ascends = F.normal.ascends;
      each = all_both NormalTerm (λ t. (degree t.monomial ≤ d) × Sized n t.coefficient) (DraftTerm d n) (λ t a b. record { six = a.six; low = b.0; sized = b.1 }) ts F.normal.each
          (all_both (λ t. degree t.monomial ≤ d) (λ t. Sized n t.coefficient) (λ t. (degree t.monomial ≤ d) × Sized n t.coefficient) (λ t a b. (a, b)) ts F.degrees F.sized.coefficients);
    }

pub joins-keep : JoinsKeep
joins-keep d a b ts us D A = draft-joins a b ts us D A

pub sum_formed : (d : ℕ) (M N R : Model) → Formed d limit M → Formed d limit N → sum M N ≡ Ok R → Formed d room R
sum_formed d M N R F G e =
    let made = sum_made M N R e in
    let few = G.normal.few in
    rw made.is
    (draft_formed (joins M.terms N.terms) (plus M.remainder N.remainder)
    (draft_more room (omega arith) (draft-joins limit limit M.terms N.terms (formed_draft F) (formed_draft G).each))
    made.few (sized_weaken (omega arith) (sized-plus F.sized.remainder G.sized.remainder)))

pub difference_formed : (d : ℕ) (M N R : Model) → Formed d limit M → Formed d limit N → difference M N ≡ Ok R → Formed d room R
difference_formed d M N R F G e = sum_formed d M (negated_model N) R F (negated_formed d limit N G) e

-- ---- products
normal-six : (ts : List Term) → AllByRecursion NormalTerm ts → Six ts
normal-six ts A = All-weaker NormalTerm (λ t. length t.monomial ≡ 6) (λ t h. h.six) ts A

pub gathering_keeps : (k : KindMeaning) (order : ℕ) → GatheringKeeps k order
gathering_keeps k order ps six f =
    let G = gather_all k order 0 0 ps zero_model six f (record { draft = record { ascends = tt; each = tt }; remainder = sized_zero 0 }) in
    record { draft = draft_more (length ps * limit) (omega arith) G.draft; remainder = sized_weaken (omega arith) G.remainder }

module _ (k : KindMeaning) (m : MethodMeaning) (order : ℕ) where
  pub product_formed : (M N R : Model) → Normal M → Normal N → product k m order M N ≡ Ok R → Formed order room R
  product_formed M N R A B e =
      let P = product_made k m order M N R e in
      let S = k.scale in
      let above = scale-above k in
      let ps = pairs S M.terms N.terms in
      let six = pairs-six S M.terms N.terms (normal-six M.terms A.each) (normal-six N.terms B.each) in
      let G = gathering_keeps k order ps six (all_fit_in ps (pairs_ordered S above M.terms N.terms) P.hulls) in
      let a = A.few in
      let b = B.few in
      let few : length ps ≤ 1600 = omega (arith, length_pairs S M.terms N.terms, mul-le-mul a b) in
      let x = fits-sized (times-order S above (m.range M.terms) N.remainder) P.first in
      let y = fits-sized (times-order S above (m.range N.terms) M.remainder) P.second in
      let z = fits-sized (times-order S above M.remainder N.remainder) P.third in
      rw P.is
      (draft_formed (gathered k order ps).terms _ (draft_more room (omega arith) G.draft) P.few (sized_weaken (omega arith) (sized-plus (sized-plus (sized-plus G.remainder x) y) z)))
