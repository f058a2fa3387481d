-- How many pairs a text can make: at most seven products for each of its tokens, and it has a token for each byte at the most. Assumes
-- nothing.
use Rattle.std.proofs.Common.{◌≡◌, ℕ, zero, suc, ◌+◌, ◌*◌, ◌≤◌, Bool, true, ltb, leb, List, [], ◌∷◌, length, get_or, Ok, Err, Result, subst, subst₂, arith}
use Rattle.std.specs.List.{AllByRecursion}
use Rattle.std.proofs.lemmas.Bool.{leb-true, cond_both}
use Rattle.interval.specs.declared.reason.Reason.{Reason}
use Rattle.interval.specs.Hull.{hull}
use Rattle.interval.specs.Kind.{KindMeaning}
use Rattle.polynomial.specs.Method.{MethodMeaning}
use Rattle.taylor.specs.Model.{Model}
use Rattle.taylor.specs.Arithmetic.{negated_model, sum, difference}
use Rattle.taylor.specs.Product.{Worked, worked, power}
use Rattle.taylor.proofs.Results.{same-value, not_refused, and_then_ok, require_ok}
use Rattle.formula.specs.declared.token.Token.{Token}
use Rattle.formula.specs.declared.token.Token.TheVariants.{Constant, Variable, Line, Power, Add, Subtract, Multiply}
use Rattle.formula.specs.Token.{Item, Reading, followed, token_at, items_from, items}
use Rattle.formula.specs.Fault.{at_place}
use Rattle.formula.specs.Admitted.{admitted}
use Rattle.formula.specs.Work.{Ground, Stack, stack, no_line, put, pairless, push, unary, binary, concluded, run_token, run_item, run_items, work}
use Rattle.formula.proofs.Faults.{at_place_ok}
use Rattle.formula.proofs.TermCounts.{Few, constant-few, variable-few, sum-few, pairless-few, times-few, power-few}

-- an outcome of few terms and of at most seven products
abbrev Small : Worked → Type 0
Small w = Few w.model × (w.pairs ≤ 11200)

-- after so many tokens every operand has few terms, and seven products a token are the most
pub record Modest (n : ℕ) (s : Stack) : Type 0 where
  pub few : AllByRecursion Few s.operands
  pub pairs : s.pairs ≤ n * 11200

put_modest : (n : ℕ) (s : Stack) (rest : List Model) (r : Result Worked Reason) {t : Stack} → s.pairs ≤ n * 11200 → AllByRecursion Few rest → ((w : Worked) → r ≡ Ok w → Small w) →
    put s rest r ≡ Ok t → Modest (suc n) t
put_modest n s rest r {t} h f g q =
    let (w, e, q1) = and_then_ok r _ q in
    let (a, b) = g w e in
    subst (Modest (suc n)) (same-value q1) (record { few = (a, f); pairs = omega arith })

push_modest : (m : MethodMeaning) (n : ℕ) (s : Stack) (M : Model) (b : Bool) {t : Stack} → Modest n s → Few M → push m s M b ≡ Ok t → Modest (suc n) t
push_modest m n s M b S f q =
    let (a, q1) = require_ok (ltb (length s.operands) 8) _ _ q in
    put_modest n s s.operands (pairless m M b) S.pairs S.few (λ w e. pairless-few m M b f e) q1

unary_modest : (n : ℕ) (s : Stack) (Ms : List Model) (f : Model → Result Worked Reason) {t : Stack} → s.pairs ≤ n * 11200 → AllByRecursion Few Ms →
    ((M : Model) (w : Worked) → Few M → f M ≡ Ok w → Small w) → unary s Ms f ≡ Ok t → Modest (suc n) t
unary_modest n s [] f h F g q = absurd (not_refused q)
unary_modest n s (x ∷ rest) f h F g q = put_modest n s rest (f x) h F.1 (λ w e. g x w F.0 e) q

binary_modest : (n : ℕ) (s : Stack) (Ms : List Model) (f : Model → Model → Result Worked Reason) {t : Stack} → s.pairs ≤ n * 11200 → AllByRecursion Few Ms →
    ((M N : Model) (w : Worked) → Few M → Few N → f M N ≡ Ok w → Small w) → binary s Ms f ≡ Ok t → Modest (suc n) t
binary_modest n s [] f h F g q = absurd (not_refused q)
binary_modest n s (y ∷ []) f h F g q = absurd (not_refused q)
binary_modest n s (y ∷ (x ∷ rest)) f h F g q = put_modest n s rest (f x y) h F.1.1 (λ w e. g x y w F.1.0 F.0 e) q

few-line : (ls : List Worked) (n : ℕ) → AllByRecursion (λ w. Few w.model) ls → Few (get_or ls n no_line).model
few-line [] n F = omega arith
few-line (l ∷ ls) zero F = F.0
few-line (l ∷ ls) (suc n) F = few-line ls n F.1

module _ (k : KindMeaning) (m : MethodMeaning) (g : Ground) (lines : AllByRecursion (λ w. Few w.model) g.lines) where
  run_modest : (n : ℕ) (s : Stack) (x : Token) {t : Stack} → Modest n s → admitted k.scale (length g.box) (length g.lines) x ≡ Ok tt → run_token k m g s x ≡ Ok t → Modest (suc n) t
  run_modest n s (Constant c) S a q = push_modest m n s _ true S (constant-few k (hull k.scale c)) q
  run_modest n s (Variable v) S a q = push_modest m n s _ true S (variable-few v _) q
  run_modest n s (Line l) S a q = push_modest m n s _ _ S (few-line g.lines l lines) q
  run_modest n s (Power e) S a q =
      let (b, p) = require_ok (leb e 8) _ _ a in
      unary_modest n s s.operands (power k m g.order e) S.pairs S.few (λ M w f c. power-few k m g.order e M (leb-true e 8 b) f c) q
  run_modest n s Add S a q = binary_modest n s s.operands _ S.pairs S.few (λ M N w f h c.
      let (R, e, p) = and_then_ok (sum M N) (λ R. pairless m R true) c in pairless-few m R true (sum-few M N e) p) q
  run_modest n s Subtract S a q = binary_modest n s s.operands _ S.pairs S.few (λ M N w f h c.
      let (R, e, p) = and_then_ok (difference M N) (λ R. pairless m R true) c in pairless-few m R true (sum-few M (negated_model N) e) p) q
  run_modest n s Multiply S a q = binary_modest n s s.operands _ S.pairs S.few (λ M N w f h c.
      let (b, p) = times-few k m g.order (worked M 0 true) N f h c in (b, omega arith)) q

  items_modest : (n : ℕ) (s : Stack) (is : List Item) {t : Stack} → Modest n s → run_items k m g s is ≡ Ok t → Modest (n + length is) t
  unfolding run_items
  items_modest n s [] S q = let more : n ≡ n + 0 = omega arith in subst₂ Modest more (same-value q) S
  items_modest n s (i ∷ is) {t} S q =
      let (u, e, r) = and_then_ok (at_place i.place (run_item k m g s i)) (λ u. run_items k m g u is) q in
      let (x, p, e1) = and_then_ok i.token _ (at_place_ok i.place (run_item k m g s i) e) in
      let (_, a, e2) = and_then_ok (admitted k.scale (length g.box) (length g.lines) x) (λ _. run_token k m g s x) e1 in
      let more : suc n + length is ≡ n + suc (length is) = omega arith in
      subst (λ c. Modest c t) more (items_modest (suc n) u is (run_modest n s x S a e2) r)

-- ---- a text
followed-few : (n i : ℕ) (r : Reading) (rest : ℕ → List Item) → ((j : ℕ) → length (rest j) ≤ n) → length (followed i r rest) ≤ suc n
followed-few n i (Ok (x, next)) rest h = omega (arith, h next)
followed-few n i (Err e) rest h = omega arith

items-few : (text : List ℕ) (n i : ℕ) → length (items_from text n i) ≤ n
unfolding items_from
items-few text zero i = omega arith
items-few text (suc n) i = cond_both (ltb i (length text)) (followed i (token_at text i) (λ next. items_from text n next)) [] (λ is. length is ≤ suc n)
    (λ _. followed-few n i (token_at text i) (λ next. items_from text n next) (λ j. items-few text n j)) (λ _. omega arith)

-- few terms, and so many pairs at the most
pub work-few : (k : KindMeaning) (m : MethodMeaning) (g : Ground) (text : List ℕ) {w : Worked} → AllByRecursion (λ l. Few l.model) g.lines → work k m g text ≡ Ok w →
    Few w.model × (w.pairs ≤ length text * 11200)
unfolding work
work-few k m g text {w} F q =
    let (s, e, c) = and_then_ok (run_items k m g (stack [] 0 true) (items text)) _ q in
    let S = items_modest k m g F 0 (stack [] 0 true) (items text) (record { few = tt; pairs = omega arith }) e in
    let h = S.pairs in
    go s s.operands S.few c (omega (arith, items-few text (length text) 0))
  where
    go : (s : Stack) (Ms : List Model) → AllByRecursion Few Ms → concluded (length text) s Ms ≡ Ok w → s.pairs ≤ length text * 11200 → Few w.model × (w.pairs ≤ length text * 11200)
    go s [] f c h = absurd (not_refused c)
    go s (M ∷ []) f c h = let is = same-value c in (subst (λ (z : Worked). Few z.model) is f.0, subst (λ (z : Worked). z.pairs ≤ length text * 11200) is h)
    go s (M ∷ (N ∷ Ms)) f c h = absurd (not_refused c)
