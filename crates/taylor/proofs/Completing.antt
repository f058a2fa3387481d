-- A product is told by the tally of its pairs: hulls held as [0, 0] leave the monomials as they are. Assumes nothing.
use Rattle.std.proofs.Common.{◌≡◌, ℕ, suc, ◌+◌, Bool, true, false, cond, ◌&&◌, leb, List, [], ◌∷◌, map, length, Ok, fold, Result, sym, refl, ap, ◌∙◌, ap₂, arith}
use mathlib.Core.Bool.{and-true, and_assoc}
use lib.ListN.{length-map}
use Rattle.std.proofs.lemmas.Bool.{and_parts}
use Rattle.interval.specs.declared.marks.Interval.{Interval}
use Rattle.interval.specs.declared.reason.Reason.{Reason}
use Rattle.interval.specs.declared.reason.Reason.TheVariants.{TooManyMonomials, DoesNotFit}
use Rattle.interval.specs.Interval.{fits, zero_interval}
use Rattle.interval.specs.Kind.{KindMeaning}
use Rattle.interval.specs.Reason.{and_then, require}
use Rattle.polynomial.specs.declared.term.Term.{Term}
use Rattle.polynomial.specs.Reach.{term, dropped}
use Rattle.polynomial.specs.Method.{MethodMeaning}
use Rattle.polynomial.specs.Terms.{all_fit}
use Rattle.taylor.specs.Model.{Model, model, tested}
use Rattle.taylor.specs.Product.{Worked, worked, kept, all_kept, gather, gathered, product_pairs, three_fit, joint_remainder, product, times_worked}
use Rattle.taylor.specs.Gathering.{Tally, held_hull, held, no_pairs, tallied, tally, completed}
use Rattle.taylor.proofs.Counting.{monomials_gathered}

-- ---- what the pairs come to
module _ (k : KindMeaning) (order : ℕ) where
  abbrev totals : Tally → List Term → Tally
  totals y ts = record {
    model = fold (gather k order) y.model (map held ts);
    pairs = y.pairs + length ts;
    clean = y.clean && all_kept order ts;
    fit = y.fit && all_fit ts;
  }

  pub tally_is : (ts : List Term) (y : Tally) → tally k order y ts ≡ totals y ts
  tally_is [] y =
      let n : y.pairs ≡ y.pairs + 0 = omega arith in
      λ i. record { model = y.model; pairs = n i; clean = sym (and-true y.clean) i; fit = sym (and-true y.fit) i }
  tally_is (t ∷ ts) y =
      let rest = tally_is ts (tallied k order y t) in
      let n : y.pairs + 1 + length ts ≡ y.pairs + suc (length ts) = omega arith in
      rest ∙ (λ i. record { model = (totals (tallied k order y t) ts).model; pairs = n i; clean = and_assoc y.clean (kept order t) (all_kept order ts) i; fit = and_assoc y.fit (fits t.coefficient) (all_fit ts) i })

-- ---- hulls that are held
held_same : (i : Interval) → fits i ≡ true → held_hull i ≡ i
held_same i e = ap (λ b. cond b i zero_interval) e

held_all : (ts : List Term) → all_fit ts ≡ true → map held ts ≡ ts
held_all [] e = refl
held_all (t ∷ ts) e =
    let h = and_parts (fits t.coefficient) (all_fit ts) e in
    ap₂ {C = List Term} (λ i us. term t.monomial i ∷ us) (held_same t.coefficient h.0) (held_all ts h.1)

held_monomials : (ts : List Term) → map (λ t. t.monomial) (map held ts) ≡ map (λ t. t.monomial) ts
held_monomials [] = refl
held_monomials (t ∷ ts) = ap (λ ms. t.monomial ∷ ms) (held_monomials ts)

-- ---- products
module _ (k : KindMeaning) (m : MethodMeaning) (order : ℕ) (M N : Model) where
  abbrev all_pairs : List Term
  all_pairs = product_pairs k M N

  abbrev T : Tally
  T = tally k order no_pairs all_pairs

  abbrev G : Model
  G = gathered k order all_pairs

  tallied-model : T.model ≡ gathered k order (map held all_pairs)
  tallied-model = ap (λ y. y.model) (tally_is k order all_pairs no_pairs)

  fit_is : T.fit ≡ all_fit all_pairs
  fit_is = ap (λ y. y.fit) (tally_is k order all_pairs no_pairs)

  -- the monomials are counted as if no hull were held
  count_is : length T.model.terms ≡ length G.terms
  count_is =
      ap (λ R. length R.terms) tallied-model
      ∙ sym (length-map (gathered k order (map held all_pairs)).terms (λ t. t.monomial))
      ∙ ap length (monomials_gathered k order (map held all_pairs) all_pairs (held_monomials all_pairs))
      ∙ length-map G.terms (λ t. t.monomial)

  abbrev finish : Bool → Model → Result Model Reason
  finish b R = require (b && three_fit k m M N) DoesNotFit (Ok (model (dropped R.terms) (joint_remainder k m M N R.remainder)))

  -- where one does not fit, what is gathered does not matter
  finish_is : (b : Bool) → all_fit all_pairs ≡ b → finish b G ≡ finish b T.model
  finish_is true e = ap (finish true) (sym (tallied-model ∙ ap (gathered k order) (held_all all_pairs e)))
  finish_is false e = refl

  pub product-tallied : product k m order M N ≡ require (leb (length T.model.terms) 40) TooManyMonomials (completed k m T M N)
  unfolding product completed
  product-tallied = ap₂ (λ n r. require (leb n 40) TooManyMonomials r) (sym count_is) (finish_is (all_fit all_pairs) refl ∙ ap (λ b. finish b T.model) (sym fit_is))

-- a tested product, from the tally
module _ (k : KindMeaning) (m : MethodMeaning) (order : ℕ) (w : Worked) (N : Model) where
  abbrev U : Tally
  U = tally k order no_pairs (product_pairs k w.model N)

  pub times-tallied : times_worked k m order w N ≡ and_then (and_then (require (leb (length U.model.terms) 40) TooManyMonomials (completed k m U w.model N)) (tested m)) (λ M. Ok (worked M (w.pairs + U.pairs) (w.clean && U.clean)))
  times-tallied =
      let y = tally_is k order (product_pairs k w.model N) no_pairs in
      let n : U.pairs ≡ length (product_pairs k w.model N) = ap (λ u. u.pairs) y ∙ omega arith in
      let c = ap (λ u. u.clean) y in
      ap (λ r. and_then (and_then r (tested m)) (λ M. Ok (worked M (w.pairs + length (product_pairs k w.model N)) (w.clean && all_kept order (product_pairs k w.model N))))) (product-tallied k m order w.model N)
      ∙ ap₂ (λ n c. and_then (and_then (require (leb (length U.model.terms) 40) TooManyMonomials (completed k m U w.model N)) (tested m)) (λ M. Ok (worked M (w.pairs + n) (w.clean && c)))) (sym n) (sym c)
