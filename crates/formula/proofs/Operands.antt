-- Operands of the stack beside their exact values: each operation gives a tested model that carries the exact outcome. Assumes nothing.
use Rattle.std.proofs.Common.{◌≡◌, ℕ, ◌+◌, ◌≤◌, Bool, true, ltb, List, [], ◌∷◌, length, Some, Ok, Option, Result, sym, refl, subst, arith}
use Rattle.rational.specs.Fraction.{Fraction, powᶠ, ◌+ᶠ◌, ◌-ᶠ◌, ◌*ᶠ◌}
use Rattle.interval.specs.declared.reason.Reason.{Reason}
use Rattle.interval.specs.Reason.{and_then}
use Rattle.interval.specs.Interval.{limit}
use Rattle.interval.specs.Kind.{KindMeaning}
use Rattle.table.specs.Monomial.{degree}
use Rattle.polynomial.specs.declared.term.Term.{Term}
use Rattle.polynomial.specs.Value.{Units}
use Rattle.polynomial.specs.Method.{MethodMeaning}
use Rattle.taylor.specs.Model.{Model, tested}
use Rattle.taylor.specs.Form.{Normal, Degrees, Formed, Tested}
use Rattle.taylor.specs.Arithmetic.{sum, difference}
use Rattle.taylor.specs.Product.{Worked, worked, times_worked, power}
use Rattle.taylor.specs.Enclosure.{Carries}
use Rattle.taylor.proofs.Enclosures.{arithmetic_encloses}
use Rattle.taylor.proofs.Keeps.{forms_kept}
use Rattle.taylor.proofs.Results.{same-value, not_refused, and_then_ok, require_ok}
use Rattle.formula.specs.Work.{Stack, put, pairless, push, unary, binary}
use Rattle.formula.specs.Meaning.{on_one, on_two}

-- ---- every polynomial has some degree
top : List Term → ℕ
top [] = 0
top (t ∷ ts) = degree t.monomial + top ts

below_top : (ts : List Term) (d : ℕ) → top ts ≤ d → Degrees d ts
unfolding top
below_top [] d h = tt
below_top (t ∷ ts) d h = (omega arith, below_top ts d (omega arith))

module _ (k : KindMeaning) (m : MethodMeaning) (order : ℕ) (us : List Fraction) where
  -- a tested model that carries x units
  pub record Holds (M : Model) (x : Fraction) : Type 0 where
    pub tests : Tested m M
    pub carries : Carries k us M x

  -- the operands carry the exact ones, one by one
  abbrev pub Carried : List Model → List Fraction → Type 0
  Carried [] [] = Unit {0}
  Carried [] (x ∷ xs) = ⊥
  Carried (M ∷ Ms) [] = ⊥
  Carried (M ∷ Ms) (x ∷ xs) = Holds M x × Carried Ms xs

  -- what a token leaves
  pub record Leaves (r : Option (List Fraction)) (u : Stack) : Type 0 where
    pub exacts : List Fraction
    pub exact : r ≡ Some exacts
    pub beside : Carried u.operands exacts

  put_holds : (s : Stack) (rest : List Model) (r : Result Worked Reason) (x : Fraction) (xs : List Fraction) {u : Stack} → Carried rest xs →
      ((w : Worked) → r ≡ Ok w → Holds w.model x) → put s rest r ≡ Ok u → Carried u.operands (x ∷ xs)
  put_holds s rest r x xs B h q =
      let (w, e, q1) = and_then_ok r _ q in
      subst (λ (u : Stack). Carried u.operands (x ∷ xs)) (same-value q1) (h w e, B)

  pairless-holds : (M : Model) (b : Bool) (x : Fraction) {w : Worked} → Normal M → Carries k us M x → pairless m M b ≡ Ok w → Holds w.model x
  pairless-holds M b x N C q =
      let (R, e, q1) = and_then_ok (tested m M) _ q in
      let (same, T) = (forms_kept k m order).tests M R N e in
      subst (λ (w : Worked). Holds w.model x) (same-value q1) (subst (λ R. Holds R x) (sym same) (record { tests = T; carries = C }))

  pub push-holds : (s : Stack) (xs : List Fraction) (M : Model) (b : Bool) (x : Fraction) {u : Stack} → Carried s.operands xs → Normal M → Carries k us M x →
      push m s M b ≡ Ok u → Carried u.operands (x ∷ xs)
  push-holds s xs M b x B N C q =
      let (a, q1) = require_ok (ltb (length s.operands) 8) _ _ q in
      put_holds s s.operands (pairless m M b) x xs B (λ w e. pairless-holds M b x N C e) q1

  pub unary-holds : (s : Stack) (Ms : List Model) (xs : List Fraction) (f : Model → Result Worked Reason) (h : Fraction → Fraction) {u : Stack} → Carried Ms xs →
      ((M : Model) (x : Fraction) (w : Worked) → Holds M x → f M ≡ Ok w → Holds w.model (h x)) → unary s Ms f ≡ Ok u → Leaves (on_one (λ x. Some (h x)) xs) u
  unary-holds s [] [] f h B g q = absurd (not_refused q)
  unary-holds s [] (x ∷ xs) f h B g q = absurd B
  unary-holds s (M ∷ Ms) [] f h B g q = absurd B
  unary-holds s (M ∷ Ms) (x ∷ xs) f h B g q = record { exacts = h x ∷ xs; exact = refl; beside = put_holds s Ms (f M) (h x) xs B.1 (λ w e. g M x w B.0 e) q }

  pub binary-holds : (s : Stack) (Ms : List Model) (xs : List Fraction) (f : Model → Model → Result Worked Reason) (h : Fraction → Fraction → Fraction) {u : Stack} → Carried Ms xs →
      ((M N : Model) (x y : Fraction) (w : Worked) → Holds M x → Holds N y → f M N ≡ Ok w → Holds w.model (h x y)) → binary s Ms f ≡ Ok u → Leaves (on_two (λ x y. Some (h x y)) xs) u
  binary-holds s [] [] f h B g q = absurd (not_refused q)
  binary-holds s [] (y ∷ xs) f h B g q = absurd B
  binary-holds s (N ∷ []) [] f h B g q = absurd B
  binary-holds s (N ∷ []) (y ∷ []) f h B g q = absurd (not_refused q)
  binary-holds s (N ∷ []) (y ∷ (x ∷ xs)) f h B g q = absurd B.1
  binary-holds s (N ∷ (M ∷ Ms)) [] f h B g q = absurd B
  binary-holds s (N ∷ (M ∷ Ms)) (y ∷ []) f h B g q = absurd B.1
  binary-holds s (N ∷ (M ∷ Ms)) (y ∷ (x ∷ xs)) f h B g q =
      record { exacts = h x y ∷ xs; exact = refl; beside = put_holds s Ms (f M N) (h x y) xs B.1.1 (λ w e. g M N x y w B.1.0 B.0 e) q }

  -- a tested model, of some degree
  formed : (M : Model) (d : ℕ) → Tested m M → top M.terms ≤ d → Formed d limit M
  formed M d T h = record { normal = T.normal; degrees = below_top M.terms d h; sized = T.sized }

  module _ (U : Units us) where
    pub sum-holds : (M N : Model) (x y : Fraction) (w : Worked) → Holds M x → Holds N y → and_then (sum M N) (λ R. pairless m R true) ≡ Ok w → Holds w.model (x +ᶠ y)
    sum-holds M N x y w A B q =
        let (R, e, p) = and_then_ok (sum M N) (λ R. pairless m R true) q in
        let d = top M.terms + top N.terms in
        let F = (forms_kept k m order).sums d M N R (formed M d A.tests (omega arith)) (formed N d B.tests (omega arith)) e in
        pairless-holds R true (x +ᶠ y) F.normal ((arithmetic_encloses k m order us U).1.sums M N R x y A.carries B.carries e) p

    pub difference-holds : (M N : Model) (x y : Fraction) (w : Worked) → Holds M x → Holds N y → and_then (difference M N) (λ R. pairless m R true) ≡ Ok w → Holds w.model (x -ᶠ y)
    difference-holds M N x y w A B q =
        let (R, e, p) = and_then_ok (difference M N) (λ R. pairless m R true) q in
        let d = top M.terms + top N.terms in
        let F = (forms_kept k m order).differences d M N R (formed M d A.tests (omega arith)) (formed N d B.tests (omega arith)) e in
        pairless-holds R true (x -ᶠ y) F.normal ((arithmetic_encloses k m order us U).1.differences M N R x y A.carries B.carries e) p

    pub product-holds : (M N : Model) (x y : Fraction) (w : Worked) → Holds M x → Holds N y → times_worked k m order (worked M 0 true) N ≡ Ok w → Holds w.model (x *ᶠ y)
    product-holds M N x y w A B q =
        let K = forms_kept k m order in
        record {
          tests = (K.worked_products (worked M 0 true) w N A.tests.normal B.tests.normal q).0;
          carries = (arithmetic_encloses k m order us U).1.worked_products (worked M 0 true) w N x y (K.polynomials M A.tests) (K.polynomials N B.tests) A.carries B.carries q;
        }

    pub power-holds : (e : ℕ) (M : Model) (x : Fraction) (w : Worked) → Holds M x → power k m order e M ≡ Ok w → Holds w.model (powᶠ x e)
    power-holds e M x w A q =
        let K = forms_kept k m order in
        let d = order + top M.terms in
        record {
          tests = (K.powers d e M w (omega arith) A.tests (below_top M.terms d (omega arith)) q).0;
          carries = (arithmetic_encloses k m order us U).1.powers e M w x (K.polynomials M A.tests) A.carries q;
        }
