-- A model that passes the test is a polynomial whose coefficients fit, and every product in a power passes it. Assumes nothing.
use Rattle.std.proofs.Common.{◌≡◌, ℕ, zero, suc, ◌≤◌, true, ◌&&◌, List, [], ◌∷◌, pos, Ok, refl, subst, arith}
use Rattle.std.specs.List.{AllByRecursion}
use Rattle.std.proofs.ByRecursion.{All-weaker}
use Rattle.std.proofs.lemmas.Int.{ints}
use Rattle.std.proofs.lemmas.Bool.{and_from}
use Rattle.interval.specs.declared.reason.Reason.TheVariants.{DoesNotFit}
use Rattle.interval.specs.Interval.{limit, Sized, fits, interval}
use Rattle.interval.specs.Kind.{KindMeaning}
use Rattle.interval.proofs.Sizes.{fits-sized, sized-fits}
use Rattle.table.specs.Monomial.{degree}
use Rattle.polynomial.specs.declared.term.Term.{Term}
use Rattle.polynomial.specs.Method.{MethodMeaning, Polynomial, FitTerm}
use Rattle.polynomial.specs.Terms.{all_fit}
use Rattle.taylor.specs.Model.{Model, full_range, tested}
use Rattle.taylor.specs.Form.{NormalTerm, Normal, Degrees, Tested}
use Rattle.taylor.specs.Arithmetic.{one}
use Rattle.taylor.specs.Product.{Worked, worked, times_worked, raised, power}
use Rattle.taylor.proofs.Results.{same-value, and_then_ok, require_yes}
use Rattle.taylor.proofs.Made.{test_made, alone_made, times_made}
use Rattle.taylor.proofs.Sizes.{one-fits}
use Rattle.polynomial.proofs.Standing.{all_both}
use Rattle.taylor.proofs.Drafts.{Ordered, all_fit_in}
use Rattle.taylor.proofs.Bounds.{range-order}
use Rattle.taylor.proofs.Forms.{constant_formed, product_formed}

module _ (m : MethodMeaning) where
  fit-terms : (ts : List Term) → AllByRecursion NormalTerm ts → AllByRecursion (λ t. Sized limit t.coefficient) ts → AllByRecursion FitTerm ts
  fit-terms ts A B = all_both NormalTerm (λ t. Sized limit t.coefficient) FitTerm (λ t a b. record { six = a.six; fit = b; some = a.some }) ts A B

  pub normal_polynomial : (M : Model) → Normal M → AllByRecursion (λ t. Sized limit t.coefficient) M.terms → Polynomial M.terms
  normal_polynomial M N f = record { few = N.few; ascends = N.ascends; fit = fit-terms M.terms N.each f }

  pub tested_polynomial : (M : Model) → Tested m M → Polynomial M.terms
  tested_polynomial M t = normal_polynomial M t.normal t.sized.coefficients

  pub coefficients-fit : (ts : List Term) → AllByRecursion NormalTerm ts → all_fit ts ≡ true → AllByRecursion (λ t. Sized limit t.coefficient) ts
  coefficients-fit ts A t = all_fit_in ts (All-weaker NormalTerm Ordered (λ t h. h.order) ts A) t

  pub test_passed : (M R : Model) → Normal M → tested m M ≡ Ok R → (R ≡ M) × Tested m M
  test_passed M R N e =
      let made = test_made m M R e in
      let f = coefficients-fit M.terms N.each made.coefficients in
      let o = range-order m M.terms (normal_polynomial M N f) in
      let n = N.order in (
        made.is,
        record {
          normal = N;
          sized = record { coefficients = f; remainder = fits-sized N.order made.remainder };
          range = fits-sized o made.range;
          full = fits-sized (omega (arith, ints)) made.full;
        },
      )

  all_fit_out : (ts : List Term) → AllByRecursion (λ t. Sized limit t.coefficient) ts → all_fit ts ≡ true
  all_fit_out [] A = refl
  all_fit_out (t ∷ ts) A = and_from (fits t.coefficient) (all_fit ts) (sized-fits A.0) (all_fit_out ts A.1)

  pub test_passes : (M : Model) → Tested m M → tested m M ≡ Ok M
  unfolding tested
  test_passes M t =
      let last = fits (m.range M.terms) && fits (full_range m M) in
      require_yes (all_fit M.terms && (fits M.remainder && last)) DoesNotFit (Ok M)
      (and_from (all_fit M.terms) (fits M.remainder && last) (all_fit_out M.terms t.sized.coefficients)
      (and_from (fits M.remainder) last (sized-fits t.sized.remainder)
      (and_from (fits (m.range M.terms)) (fits (full_range m M)) (sized-fits t.range) (sized-fits t.full))))

-- ---- powers
module _ (k : KindMeaning) (m : MethodMeaning) (order : ℕ) where
  pub times-kept : (w v : Worked) (N : Model) → Normal w.model → Normal N → times_worked k m order w N ≡ Ok v → Tested m v.model × Degrees order v.model.terms
  times-kept w v N A B e =
      let t = times_made k m order w v N e in
      let F = product_formed k m order w.model N v.model A B t.made in
      ((test_passed m v.model v.model F.normal t.test).1, F.degrees)

  raised-kept : (d n : ℕ) (w v : Worked) (N : Model) → order ≤ d → Tested m w.model → Degrees d w.model.terms → Normal N → raised k m order n w N ≡ Ok v → Tested m v.model × Degrees d v.model.terms
  unfolding raised
  raised-kept d zero w v N h T D B e = subst (λ (u : Worked). Tested m u.model × Degrees d u.model.terms) (same-value e) (T, D)
  raised-kept d (suc n) w v N h T D B e =
      let a = and_then_ok (times_worked k m order w N) (λ u. raised k m order n u N) e in
      let u = a.0 in
      let t = times-kept w u N T.normal B a.1 in
      raised-kept d n u v N h t.0 (All-weaker (λ t. degree t.monomial ≤ order) (λ t. degree t.monomial ≤ d) (λ t l. omega arith) u.model.terms t.1) B a.2

  pub power-kept : (d n : ℕ) (M : Model) (w : Worked) → order ≤ d → Tested m M → Degrees d M.terms → power k m order n M ≡ Ok w → Tested m w.model × Degrees d w.model.terms
  unfolding power
  power-kept d zero M w h T D e =
      let F = constant_formed k (interval (pos k.scale) (pos k.scale)) (one-fits k) in
      let made = alone_made m (one k) true w e in
      rw made.0 ((test_passed m (one k) (one k) F.normal made.1).1, All-weaker (λ t. degree t.monomial ≤ 0) (λ t. degree t.monomial ≤ d) (λ t l. omega arith) (one k).terms F.degrees)
  power-kept d (suc zero) M w h T D e = rw (alone_made m M true w e).0 (T, D)
  power-kept d (suc (suc n)) M w h T D e = raised-kept d (suc n) (worked M 0 true) w M h T D T.normal e
