-- How many terms a model has and how many pairs an operation makes: at most 40 terms, so at most 1,600 pairs a product, and seven times
-- that a power. Assumes nothing.
use Rattle.std.proofs.Common.{◌≡◌, ℕ, zero, suc, ◌+◌, ◌*◌, ◌≤◌, Bool, true, [], ◌∷◌, length, Ok, subst, arith}
use Rattle.interval.specs.declared.marks.Interval.{Interval}
use Rattle.interval.specs.declared.variable.Variable.{Variable as Var}
use Rattle.interval.specs.Interval.{interval}
use Rattle.interval.specs.Kind.{KindMeaning}
use Rattle.table.specs.Monomial.{constant_monomial, linear}
use Rattle.polynomial.specs.Reach.{term, joins}
use Rattle.polynomial.specs.Method.{MethodMeaning}
use Rattle.polynomial.proofs.Coefficients.{dropped-length}
use Rattle.taylor.specs.Model.{Model}
use Rattle.taylor.specs.Arithmetic.{constant, one, variable_model, sum}
use Rattle.taylor.specs.Product.{Worked, worked, gathered, product, product_pairs, times_worked, raised, power}
use Rattle.taylor.proofs.Made.{sum_made, alone_made, product_made, times_made, pairs-counted}
use Rattle.taylor.proofs.Results.{same-value, and_then_ok}
use Rattle.formula.specs.Work.{pairless}

abbrev pub Few : Model → Type 0
Few M = length M.terms ≤ 40

pub constant-few : (k : KindMeaning) (i : Interval) → Few (constant k i)
unfolding constant
constant-few k i = let t = term constant_monomial (k.split i).0 in omega (arith, dropped-length (t ∷ []))

pub variable-few : (n : ℕ) (v : Var) → Few (variable_model n v)
unfolding variable_model
variable-few n v =
    let c = term constant_monomial (interval v.centre v.centre) in
    let h = term (linear n) (interval v.half v.half) in
    omega (arith, dropped-length (c ∷ (h ∷ [])))

pub sum-few : (M N : Model) {R : Model} → sum M N ≡ Ok R → Few R
sum-few M N {R} q = let s = sum_made M N R q in rw s.is (omega (arith, s.few, dropped-length (joins M.terms N.terms)))

-- a model that makes no pairs
pub pairless-few : (m : MethodMeaning) (M : Model) (b : Bool) {w : Worked} → Few M → pairless m M b ≡ Ok w → Few w.model × (w.pairs ≤ 11200)
pairless-few m M b {w} f q = rw (alone_made m M b w q).0 (f, omega arith)

module _ (k : KindMeaning) (m : MethodMeaning) (order : ℕ) where
  product-few : (M N : Model) {R : Model} → product k m order M N ≡ Ok R → Few R
  product-few M N {R} q =
      let s = product_made k m order M N R q in
      rw s.is (omega (arith, s.few, dropped-length (gathered k order (product_pairs k M N)).terms))

  pub times-few : (w : Worked) (N : Model) {v : Worked} → Few w.model → Few N → times_worked k m order w N ≡ Ok v → Few v.model × (v.pairs ≤ w.pairs + 1600)
  times-few w N {v} f g q = (product-few w.model N (times_made k m order w v N q).made, pairs-counted k m order w v N q f g)

  raised-few : (n : ℕ) (w : Worked) (N : Model) {v : Worked} → Few w.model → Few N → raised k m order n w N ≡ Ok v → Few v.model × (v.pairs ≤ w.pairs + n * 1600)
  unfolding raised
  raised-few zero w N {v} f g q = let is = same-value q in (subst (λ (z : Worked). Few z.model) is f, subst (λ (z : Worked). z.pairs ≤ w.pairs + 0 * 1600) is (omega arith))
  raised-few (suc n) w N {v} f g q =
      let (u, e, r) = and_then_ok (times_worked k m order w N) (λ u. raised k m order n u N) q in
      let (a, b) = times-few w N f g e in
      let (c, d) = raised-few n u N a g r in
      (c, omega arith)

  pub power-few : (e : ℕ) (M : Model) {v : Worked} → e ≤ 8 → Few M → power k m order e M ≡ Ok v → Few v.model × (v.pairs ≤ 11200)
  unfolding power
  power-few zero M h f q = pairless-few m (one k) true (constant-few k _) q
  power-few (suc zero) M h f q = pairless-few m M true f q
  power-few (suc (suc n)) M h f q = let (a, b) = raised-few (suc n) (worked M 0 true) M f f q in (a, omega arith)
