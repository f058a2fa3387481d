-- Products and powers of models, with the pairs that they make. Assumes nothing.
use Rattle.std.specs.Prelude.{ℕ, zero, suc, ◌+◌, Bool, true, cond, ◌&&◌, List, [], ◌∷◌, ◌++◌, length, Ok, fold, Result, nat_le}
use Rattle.interval.specs.declared.marks.Interval.{Interval}
use Rattle.interval.specs.declared.reason.Reason.{Reason}
use Rattle.interval.specs.declared.reason.Reason.TheVariants.{TooManyMonomials, DoesNotFit}
use Rattle.interval.specs.Interval.{fits, plus, times}
use Rattle.interval.specs.Kind.{KindMeaning}
use Rattle.interval.specs.Reason.{and_then, require}
use Rattle.table.specs.Monomial.{degree, multiplied}
use Rattle.table.specs.Order.{by_degree}
use Rattle.table.specs.Table.{entered}
use Rattle.polynomial.specs.declared.term.Term.{Term}
use Rattle.polynomial.specs.Reach.{term, reach, joined, dropped}
use Rattle.polynomial.specs.Method.{MethodMeaning}
use Rattle.polynomial.specs.Terms.{all_fit}
use Rattle.taylor.specs.Model.{Model, model, zero_model, tested}
use Rattle.taylor.specs.Arithmetic.{one}

-- a pair: the product of the monomials, with the hull
abbrev pub pair : ℕ → Term → Term → Term
pair S p q = term (multiplied p.monomial q.monomial) (times S p.coefficient q.coefficient)

abbrev pub row : ℕ → Term → List Term → List Term
row S p [] = []
row S p (q ∷ qs) = pair S p q ∷ row S p qs

-- each term of the one with each of the other
unfoldable pub pairs : ℕ → List Term → List Term → List Term
pairs S [] qs = []
pairs S (p ∷ ps) qs = row S p qs ++ pairs S ps qs

-- a pair of at most this degree is kept
abbrev pub kept : ℕ → Term → Bool
kept order t = nat_le (degree t.monomial) order

abbrev pub all_kept : ℕ → List Term → Bool
all_kept order [] = true
all_kept order (t ∷ ts) = kept order t && all_kept order ts

-- a model with the pairs that its working made, and whether none was cut
pub record Worked : Type 0 where
  pub model : Model
  pub pairs : ℕ
  pub clean : Bool

abbrev pub worked : Model → ℕ → Bool → Worked
worked M n b = record { model = M; pairs = n; clean = b }

-- ---- pairs that are gathered into a model
-- a kept pair is split: the coefficient joins its monomial's, the leftover's reach the remainder
abbrev pub keep : KindMeaning → Model → Term → Model
keep k M t =
    let parts = k.split t.coefficient in
    model (entered by_degree (λ u. u.monomial) joined M.terms (term t.monomial parts.0)) (plus M.remainder (reach t.monomial parts.1))

-- the reach of a cut pair's hull joins the remainder
abbrev pub cut : Model → Term → Model
cut M t = model M.terms (plus M.remainder (reach t.monomial t.coefficient))

-- one pair, and one after the other
abbrev pub gather : KindMeaning → ℕ → Model → Term → Model
gather k order M t = cond (kept order t) (keep k M t) (cut M t)

abbrev pub gathered : KindMeaning → ℕ → List Term → Model
gathered k order ts = fold (gather k order) zero_model ts

-- ---- products
-- all pairs of a product, kept or cut
abbrev pub product_pairs : KindMeaning → Model → Model → List Term
product_pairs k M N = pairs k.scale M.terms N.terms

-- the range of the one polynomial times the other remainder, and the two remainders
abbrev pub range_remainder : KindMeaning → MethodMeaning → Model → Model → Interval
range_remainder k m M N = times k.scale (m.range M.terms) N.remainder

abbrev pub remainders : KindMeaning → Model → Model → Interval
remainders k M N = times k.scale M.remainder N.remainder

abbrev pub three_fit : KindMeaning → MethodMeaning → Model → Model → Bool
three_fit k m M N = fits (range_remainder k m M N) && (fits (range_remainder k m N M) && fits (remainders k M N))

-- what the pairs leave over, and those three
abbrev pub joint_remainder : KindMeaning → MethodMeaning → Model → Model → Interval → Interval
joint_remainder k m M N left = plus (plus (plus left (range_remainder k m M N)) (range_remainder k m N M)) (remainders k M N)

module _ (k : KindMeaning) (m : MethodMeaning) (order : ℕ) where
  -- the monomials of the kept pairs are counted before any hull is tested
  unfoldable pub product : Model → Model → Result Model Reason
  product M N =
      let ps = product_pairs k M N in
      let G = gathered k order ps in
      require (nat_le (length G.terms) 40) TooManyMonomials
      (require (all_fit ps && three_fit k m M N) DoesNotFit (Ok (model (dropped G.terms) (joint_remainder k m M N G.remainder))))

  -- a tested product joins what was worked before
  abbrev pub times_worked : Worked → Model → Result Worked Reason
  times_worked w N =
      let ps = product_pairs k w.model N in
      and_then (and_then (product w.model N) (tested m)) (λ M. Ok (worked M (w.pairs + length ps) (w.clean && all_kept order ps)))

  -- n more products with the operand
  unfoldable pub raised : ℕ → Worked → Model → Result Worked Reason
  raised zero w N = Ok w
  raised (suc n) w N = and_then (times_worked w N) (λ v. raised n v N)

  -- power 0 is one unit, power 1 the operand, a higher power the one below it times the operand
  unfoldable pub power : ℕ → Model → Result Worked Reason
  power zero M = and_then (tested m (one k)) (λ N. Ok (worked N 0 true))
  power (suc zero) M = and_then (tested m M) (λ N. Ok (worked N 0 true))
  power (suc (suc n)) M = raised (suc n) (worked M 0 true) M
