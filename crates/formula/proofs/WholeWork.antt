-- In the whole kind the work of a text keeps points: a stack that ends clean was clean at every token, so no pair was cut. Assumes nothing.
use Rattle.std.proofs.Common.{◌≡◌, ℕ, Bool, true, ltb, List, [], ◌∷◌, ◌++◌, length, get_or, is_some, Ok, Result, ap, ◌∙◌, subst, sym}
use Rattle.std.specs.List.{AllByRecursion}
use Rattle.std.proofs.lemmas.Bool.{and_parts}
use Rattle.interval.specs.declared.reason.Reason.{Reason}
use Rattle.interval.specs.declared.variable.Variable.{Variable as Var}
use Rattle.interval.specs.Hull.{hull, hulled}
use Rattle.interval.specs.Kind.{KindMeaning}
use Rattle.interval.proofs.Orders.{hull_ordered}
use Rattle.interval.proofs.Sizes.{fits-sized}
use Rattle.polynomial.specs.Method.{MethodMeaning}
use Rattle.taylor.specs.Model.{Model}
use Rattle.taylor.specs.Arithmetic.{constant, variable_model, sum, difference}
use Rattle.taylor.specs.Product.{Worked, worked}
use Rattle.taylor.specs.Exactness.{Whole, Pointed}
use Rattle.taylor.proofs.Made.{alone_made}
use Rattle.taylor.proofs.Results.{same-value, not_refused, and_then_ok, require_ok}
use Rattle.taylor.proofs.WholeKind.{whole-exact}
use Rattle.formula.specs.declared.token.Token.{Token}
use Rattle.formula.specs.declared.token.Token.TheVariants.{Constant, Variable, Line, Power, Add, Subtract, Multiply}
use Rattle.formula.specs.Token.{Item, items, added, read_tokens}
use Rattle.formula.specs.Fault.{at_place}
use Rattle.formula.specs.Admitted.{admitted}
use Rattle.formula.specs.Work.{Ground, ground, Stack, stack, no_variable, no_line, put, pairless, push, unary, binary, concluded, run_token, run_item, run_items, work}
use Rattle.formula.specs.Meaning.{named, all_named}
use Rattle.formula.specs.WorkLaws.{WholeToken, WholeLine, WorkWhole}
use Rattle.formula.proofs.Faults.{at_place_ok}
use Rattle.formula.proofs.SoundWork.{constant-admitted}

-- ---- one outcome more on a stack that is clean in the end
put_pointed : (s : Stack) (rest : List Model) (r : Result Worked Reason) {u : Stack} → ((w : Worked) → r ≡ Ok w → w.clean ≡ true → Pointed w.model) → AllByRecursion Pointed rest →
    put s rest r ≡ Ok u → u.clean ≡ true → AllByRecursion Pointed u.operands
put_pointed s rest r {u} f P q c =
    let (w, e, q1) = and_then_ok r _ q in
    let is = same-value q1 in
    let (a, b) = and_parts s.clean w.clean (ap (λ (z : Stack). z.clean) is ∙ c) in
    subst (λ (z : Stack). AllByRecursion Pointed z.operands) is (f w e b, P)

-- it was clean before
put-clean : (s : Stack) (rest : List Model) (r : Result Worked Reason) {u : Stack} → put s rest r ≡ Ok u → u.clean ≡ true → s.clean ≡ true
put-clean s rest r q c = let (w, e, q1) = and_then_ok r _ q in (and_parts s.clean w.clean (ap (λ (z : Stack). z.clean) (same-value q1) ∙ c)).0

pairless_pointed : (m : MethodMeaning) (M : Model) (b : Bool) (w : Worked) → (b ≡ true → Pointed M) → pairless m M b ≡ Ok w → w.clean ≡ true → Pointed w.model
pairless_pointed m M b w P q c = let is = (alone_made m M b w q).0 in rw is (P (sym (ap (λ (z : Worked). z.clean) is) ∙ c))

unary_pointed : (s : Stack) (Ms : List Model) (f : Model → Result Worked Reason) {u : Stack} → ((M : Model) (w : Worked) → Pointed M → f M ≡ Ok w → w.clean ≡ true → Pointed w.model) →
    AllByRecursion Pointed Ms → unary s Ms f ≡ Ok u → u.clean ≡ true → AllByRecursion Pointed u.operands
unary_pointed s [] f g P q c = absurd (not_refused q)
unary_pointed s (M ∷ Ms) f g P q c = put_pointed s Ms (f M) (λ w e b. g M w P.0 e b) P.1 q c

binary_pointed : (s : Stack) (Ms : List Model) (f : Model → Model → Result Worked Reason) {u : Stack} →
    ((M N : Model) (w : Worked) → Pointed M → Pointed N → f M N ≡ Ok w → w.clean ≡ true → Pointed w.model) → AllByRecursion Pointed Ms → binary s Ms f ≡ Ok u → u.clean ≡ true → AllByRecursion Pointed u.operands
binary_pointed s [] f g P q c = absurd (not_refused q)
binary_pointed s (N ∷ []) f g P q c = absurd (not_refused q)
binary_pointed s (N ∷ (M ∷ Ms)) f g P q c = put_pointed s Ms (f M N) (λ w e b. g M N w P.1.0 P.0 e b) P.1.1 q c

unary-clean : (s : Stack) (Ms : List Model) (f : Model → Result Worked Reason) {u : Stack} → unary s Ms f ≡ Ok u → u.clean ≡ true → s.clean ≡ true
unary-clean s [] f q c = absurd (not_refused q)
unary-clean s (M ∷ Ms) f q c = put-clean s Ms (f M) q c

binary-clean : (s : Stack) (Ms : List Model) (f : Model → Model → Result Worked Reason) {u : Stack} → binary s Ms f ≡ Ok u → u.clean ≡ true → s.clean ≡ true
binary-clean s [] f q c = absurd (not_refused q)
binary-clean s (N ∷ []) f q c = absurd (not_refused q)
binary-clean s (N ∷ (M ∷ Ms)) f q c = put-clean s Ms (f M N) q c

all_parts : {A : Type 0} (P : A → Type 0) (xs ys : List A) → AllByRecursion P (xs ++ ys) → AllByRecursion P xs × AllByRecursion P ys
all_parts P [] ys h = (tt, h)
all_parts P (x ∷ xs) ys h = let (a, b) = all_parts P xs ys h.1 in ((h.0, a), b)

module _ (k : KindMeaning) (m : MethodMeaning) (K : Whole k) (order : ℕ) (box : List Var) (lines : List Worked) (made : List (List Token))
    (L : (n : ℕ) → WholeLine (get_or lines n no_line) (get_or made n [])) where
  abbrev here : Ground
  here = ground order box lines

  token-clean : (s : Stack) (t : Token) {u : Stack} → run_token k m here s t ≡ Ok u → u.clean ≡ true → s.clean ≡ true
  token-clean s (Constant x) q c = put-clean s s.operands _ (require_ok (ltb (length s.operands) 8) _ _ q).1 c
  token-clean s (Variable v) q c = put-clean s s.operands _ (require_ok (ltb (length s.operands) 8) _ _ q).1 c
  token-clean s (Line n) q c = put-clean s s.operands _ (require_ok (ltb (length s.operands) 8) _ _ q).1 c
  token-clean s (Power e) q c = unary-clean s s.operands _ q c
  token-clean s Add q c = binary-clean s s.operands _ q c
  token-clean s Subtract q c = binary-clean s s.operands _ q c
  token-clean s Multiply q c = binary-clean s s.operands _ q c

  -- a new operand
  push_pointed : (s : Stack) (M : Model) (b : Bool) {u : Stack} → (b ≡ true → Pointed M) → AllByRecursion Pointed s.operands → push m s M b ≡ Ok u → u.clean ≡ true → AllByRecursion Pointed u.operands
  push_pointed s M b f P q c = put_pointed s s.operands (pairless m M b) (λ w e d. pairless_pointed m M b w f e d) P (require_ok (ltb (length s.operands) 8) _ _ q).1 c

  token_pointed : (s : Stack) (t : Token) {u : Stack} → WholeToken t → AllByRecursion WholeToken (named made t) → AllByRecursion Pointed s.operands →
      admitted k.scale (length box) (length lines) t ≡ Ok tt → run_token k m here s t ≡ Ok u → u.clean ≡ true → AllByRecursion Pointed u.operands
  token_pointed s (Constant x) (z, e) h P a q c =
      let (f, g) = constant-admitted k.scale x (require_ok (is_some (hulled k.scale x)) _ _ a).0 in
      push_pointed s (constant k (hull k.scale x)) true (λ _. (whole-exact k m order K).constants x z e (fits-sized (hull_ordered k.scale x) g)) P q c
  token_pointed s (Variable v) t h P a q c = push_pointed s (variable_model v (get_or box v no_variable)) true (λ _. (whole-exact k m order K).variables v (get_or box v no_variable)) P q c
  token_pointed s (Line n) t h P a q c = push_pointed s (get_or lines n no_line).model (get_or lines n no_line).clean (λ b. L n b h) P q c
  token_pointed s (Power e) t h P a q c = unary_pointed s s.operands _ (λ M w p e1 b. (whole-exact k m order K).powers e M w p e1 b) P q c
  token_pointed s Add t h P a q c = binary_pointed s s.operands _ (λ M N w p r e b.
      let (R, e1, e2) = and_then_ok (sum M N) (λ R. pairless m R true) e in pairless_pointed m R true w (λ _. (whole-exact k m order K).sums M N R p r e1) e2 b) P q c
  token_pointed s Subtract t h P a q c = binary_pointed s s.operands _ (λ M N w p r e b.
      let (R, e1, e2) = and_then_ok (difference M N) (λ R. pairless m R true) e in pairless_pointed m R true w (λ _. (whole-exact k m order K).differences M N R p r e1) e2 b) P q c
  token_pointed s Multiply t h P a q c = binary_pointed s s.operands _ (λ M N w p r e b. (whole-exact k m order K).worked_products (worked M 0 true) w N p r e b) P q c

  items-clean : (s : Stack) (is : List Item) {u : Stack} → run_items k m here s is ≡ Ok u → u.clean ≡ true → s.clean ≡ true
  unfolding run_items
  items-clean s [] q c = ap (λ (z : Stack). z.clean) (same-value q) ∙ c
  items-clean s (i ∷ is) q c =
      let (v, e, r) = and_then_ok (at_place i.place (run_item k m here s i)) (λ v. run_items k m here v is) q in
      let (t, p, e1) = and_then_ok i.token _ (at_place_ok i.place (run_item k m here s i) e) in
      let (_, a, e2) = and_then_ok (admitted k.scale (length box) (length lines) t) (λ _. run_token k m here s t) e1 in
      token-clean s t e2 (items-clean v is r c)

  items_pointed : (s : Stack) (is : List Item) {u : Stack} → AllByRecursion WholeToken (all_named made (read_tokens is)) → AllByRecursion Pointed s.operands → run_items k m here s is ≡ Ok u → u.clean ≡ true →
      AllByRecursion Pointed u.operands
  unfolding run_items
  items_pointed s [] h P q c = subst (λ (z : Stack). AllByRecursion Pointed z.operands) (same-value q) P
  items_pointed s (i ∷ is) h P q c =
      let (v, e, r) = and_then_ok (at_place i.place (run_item k m here s i)) (λ v. run_items k m here v is) q in
      let (t, p, e1) = and_then_ok i.token _ (at_place_ok i.place (run_item k m here s i) e) in
      let (_, a, e2) = and_then_ok (admitted k.scale (length box) (length lines) t) (λ _. run_token k m here s t) e1 in
      let parts : AllByRecursion WholeToken (t ∷ (named made t ++ all_named made (read_tokens is))) = subst (λ x. AllByRecursion WholeToken (all_named made (added x (read_tokens is)))) p h in
      let (n, rest) = all_parts WholeToken (named made t) (all_named made (read_tokens is)) parts.1 in
      items_pointed v is rest (token_pointed s t parts.0 n P a e2 (items-clean v is r c)) r c

  concluded_pointed : (n : ℕ) (s : Stack) (Ms : List Model) (w : Worked) → (s.clean ≡ true → AllByRecursion Pointed Ms) → concluded n s Ms ≡ Ok w → w.clean ≡ true → Pointed w.model
  concluded_pointed n s [] w P q c = absurd (not_refused q)
  concluded_pointed n s (M ∷ []) w P q c = let is = same-value q in subst (λ (z : Worked). Pointed z.model) is (P (ap (λ (z : Worked). z.clean) is ∙ c)).0
  concluded_pointed n s (M ∷ (N ∷ Ms)) w P q c = absurd (not_refused q)

pub work-whole : WorkWhole
unfolding work
work-whole k m K order box lines made text w L q c h =
    let (s, e, r) = and_then_ok (run_items k m (ground order box lines) (stack [] 0 true) (items text)) _ q in
    concluded_pointed k m K order box lines made L (length text) s s.operands w (λ d. items_pointed k m K order box lines made L (stack [] 0 true) (items text) h tt e d) r c
