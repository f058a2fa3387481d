-- What is known where an operation was not refused. Assumes nothing.
use Rattle.std.proofs.Common.{◌≡◌, ℕ, ◌+◌, ◌≤◌, Bool, true, ◌&&◌, leb, length, Ok, Result, sym, ap, ◌∙◌, mul-le-mul, arith}
use Rattle.std.proofs.lemmas.Bool.{leb-true, and_parts}
use Rattle.interval.specs.declared.reason.Reason.{Reason}
use Rattle.interval.specs.declared.reason.Reason.TheVariants.{TooManyMonomials, DoesNotFit}
use Rattle.interval.specs.Interval.{fits, plus}
use Rattle.interval.specs.Kind.{KindMeaning}
use Rattle.interval.specs.Reason.{and_then, require}
use Rattle.polynomial.specs.Reach.{joins, dropped}
use Rattle.polynomial.specs.Method.{MethodMeaning}
use Rattle.polynomial.specs.Terms.{all_fit}
use Rattle.taylor.specs.Model.{Model, model, full_range, tested}
use Rattle.taylor.specs.Arithmetic.{sum}
use Rattle.taylor.specs.Product.{Worked, worked, gathered, range_remainder, remainders, joint_remainder, three_fit, product, product_pairs, all_kept, times_worked}
use Rattle.taylor.proofs.Drafts.{length_pairs}
use Rattle.taylor.proofs.Results.{same-value, and_then_ok, require_ok}

pub record SumMade (M N R : Model) : Type 0 where
  pub few : length (joins M.terms N.terms) ≤ 40
  pub is : R ≡ model (dropped (joins M.terms N.terms)) (plus M.remainder N.remainder)

pub sum_made : (M N R : Model) → sum M N ≡ Ok R → SumMade M N R
unfolding sum
sum_made M N R e =
    let table = joins M.terms N.terms in
    let h = require_ok (leb (length table) 40) TooManyMonomials (Ok (model (dropped table) (plus M.remainder N.remainder))) e in
    record { few = leb-true (length table) 40 h.0; is = sym (same-value h.1) }

pub record TestMade (m : MethodMeaning) (M R : Model) : Type 0 where
  pub coefficients : all_fit M.terms ≡ true
  pub remainder : fits M.remainder ≡ true
  pub range : fits (m.range M.terms) ≡ true
  pub full : fits (full_range m M) ≡ true
  pub is : R ≡ M

pub test_made : (m : MethodMeaning) (M R : Model) → tested m M ≡ Ok R → TestMade m M R
unfolding tested
test_made m M R e =
    let last = fits (m.range M.terms) && fits (full_range m M) in
    let h = require_ok (all_fit M.terms && (fits M.remainder && last)) DoesNotFit (Ok M) e in
    let a = and_parts (all_fit M.terms) (fits M.remainder && last) h.0 in
    let b = and_parts (fits M.remainder) last a.1 in
    let c = and_parts (fits (m.range M.terms)) (fits (full_range m M)) b.1 in
    record { coefficients = a.0; remainder = b.0; range = c.0; full = c.1; is = sym (same-value h.1) }

-- a tested model that makes no pairs
pub alone_made : (m : MethodMeaning) (M : Model) (b : Bool) (w : Worked) → and_then (tested m M) (λ N. Ok (worked N 0 b)) ≡ Ok w → (w ≡ worked M 0 b) × (tested m M ≡ Ok M)
alone_made m M b w e =
    let a = and_then_ok (tested m M) (λ N. Ok (worked N 0 b)) e in
    let same : a.0 ≡ M = (test_made m M a.0 a.1).is in
    (sym (same-value a.2) ∙ ap (λ N. worked N 0 b) same, a.1 ∙ ap {B = Result Model Reason} Ok same)

module _ (k : KindMeaning) (m : MethodMeaning) (order : ℕ) where
  pub record ProductMade (M N R : Model) : Type 0 where
    pub few : length (gathered k order (product_pairs k M N)).terms ≤ 40
    pub hulls : all_fit (product_pairs k M N) ≡ true
    pub first : fits (range_remainder k m M N) ≡ true
    pub second : fits (range_remainder k m N M) ≡ true
    pub third : fits (remainders k M N) ≡ true
    pub is : R ≡ (let G = gathered k order (product_pairs k M N) in
        model (dropped G.terms) (joint_remainder k m M N G.remainder))

  pub product_made : (M N R : Model) → product k m order M N ≡ Ok R → ProductMade M N R
  unfolding product
  product_made M N R e =
      let ps = product_pairs k M N in
      let G = gathered k order ps in
      let r = Ok (model (dropped G.terms) (joint_remainder k m M N G.remainder)) in
      let h = require_ok (leb (length G.terms) 40) TooManyMonomials (require (all_fit ps && three_fit k m M N) DoesNotFit r) e in
      let g = require_ok (all_fit ps && three_fit k m M N) DoesNotFit r h.1 in
      let a = and_parts (all_fit ps) (three_fit k m M N) g.0 in
      let b = and_parts (fits (range_remainder k m M N)) (fits (range_remainder k m N M) && fits (remainders k M N)) a.1 in
      let c = and_parts (fits (range_remainder k m N M)) (fits (remainders k M N)) b.1 in
      record { few = leb-true (length G.terms) 40 h.0; hulls = a.0; first = b.0; second = c.0; third = c.1; is = sym (same-value g.1) }

  -- a tested product, and what it adds to the work before it
  pub record TimesMade (w v : Worked) (N : Model) : Type 0 where
    pub made : product k m order w.model N ≡ Ok v.model
    pub test : tested m v.model ≡ Ok v.model
    pub pairs : v.pairs ≡ w.pairs + length (product_pairs k w.model N)
    pub clean : v.clean ≡ (w.clean && all_kept order (product_pairs k w.model N))

  pub times_made : (w v : Worked) (N : Model) → times_worked k m order w N ≡ Ok v → TimesMade w v N
  times_made w v N e =
      let a = and_then_ok (and_then (product k m order w.model N) (tested m)) _ e in
      let b = and_then_ok (product k m order w.model N) (tested m) a.1 in
      let same : a.0 ≡ b.0 = (test_made m b.0 a.0 b.2).is in
      let at : a.0 ≡ v.model = ap (λ (u : Worked). u.model) (same-value a.2) in
      record {
        made = b.1 ∙ ap {B = Result Model Reason} Ok (sym same ∙ at);
        test = ap (tested m) (sym at ∙ same) ∙ b.2 ∙ ap {B = Result Model Reason} Ok at;
        pairs = sym (ap (λ (u : Worked). u.pairs) (same-value a.2));
        clean = sym (ap (λ (u : Worked). u.clean) (same-value a.2));
      }

  -- at most 1600 pairs more
  pub pairs-counted : (w v : Worked) (N : Model) → times_worked k m order w N ≡ Ok v → length w.model.terms ≤ 40 → length N.terms ≤ 40 → v.pairs ≤ w.pairs + 1600
  pairs-counted w v N e a b =
      let n = (times_made w v N e).pairs in
      omega (arith, n, length_pairs k.scale w.model.terms N.terms, mul-le-mul a b)
