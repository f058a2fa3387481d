-- The work of a text over sound lines is sound: the stack stays beside the exact one, token by token. Assumes nothing.
use Rattle.std.proofs.Common.{◌≡◌, ℕ, suc, ◌+◌, ◌<◌, ◌≤◌, Bool, true, false, cond, ◌&&◌, ltb, List, [], ◌∷◌, length, get_or, pos, nat_abs, is_some, Some, None, Ok, Option, sym, refl, ap, ◌∙◌, subst, true≢false, arith}
use lib.Ieee.{Float}
use borrow.Author.Differences.{ints}
use Rattle.std.specs.Float.{float_is_finite}
use Rattle.std.specs.Option.{option_map}
use Rattle.std.proofs.lemmas.Option.{slice_get-get_or}
use Rattle.std.proofs.lemmas.Bool.{and_parts, ltb-true}
use Rattle.rational.specs.Fraction.{Fraction, whole, per, powᶠ, ◌+ᶠ◌, ◌-ᶠ◌, ◌*ᶠ◌}
use Rattle.interval.specs.declared.variable.Variable.{Variable as Var}
use Rattle.interval.specs.Interval.{fits}
use Rattle.interval.specs.Hull.{value, hull, hulled}
use Rattle.interval.specs.Kind.{KindMeaning}
use Rattle.interval.proofs.Orders.{hull_ordered}
use Rattle.interval.proofs.Sizes.{fits-sized}
use Rattle.polynomial.specs.Value.{Units}
use Rattle.polynomial.specs.Method.{MethodMeaning}
use Rattle.taylor.specs.Box.{InBox, units}
use Rattle.taylor.specs.Model.{Model}
use Rattle.taylor.specs.Form.{Normal}
use Rattle.taylor.specs.Arithmetic.{constant, variable_model}
use Rattle.taylor.specs.Product.{Worked, power}
use Rattle.taylor.proofs.Coordinates.{points_hold}
use Rattle.taylor.proofs.Enclosures.{arithmetic_encloses}
use Rattle.taylor.proofs.Keeps.{forms_kept}
use Rattle.taylor.proofs.Results.{same-value, not_refused, and_then_ok, require_ok}
use Rattle.formula.specs.declared.token.Token.{Token}
use Rattle.formula.specs.declared.token.Token.TheVariants.{Constant, Variable, Line, Power, Add, Subtract, Multiply}
use Rattle.formula.specs.Token.{Item, items, added, read_tokens, tokens}
use Rattle.formula.specs.Fault.{at_place}
use Rattle.formula.specs.Admitted.{admitted}
use Rattle.formula.specs.Work.{Ground, ground, Stack, stack, no_variable, no_line, concluded, run_token, run_item, run_items, work}
use Rattle.formula.specs.Meaning.{pushed, alone, onward, exact_token, exact_run, exact_tokens}
use Rattle.formula.specs.WorkLaws.{SoundLine, SoundLines, WorkSound}
use Rattle.formula.proofs.Faults.{at_place_ok}
use Rattle.formula.proofs.Operands.{Carried, Leaves, push-holds, unary-holds, binary-holds, sum-holds, difference-holds, product-holds, power-holds}

in_box_length : (box : List Var) (point : List Fraction) → InBox box point → length point ≡ length box
in_box_length [] [] P = refl
in_box_length [] (p ∷ ps) P = absurd P
in_box_length (v ∷ vs) [] P = absurd P
in_box_length (v ∷ vs) (p ∷ ps) P = ap suc (in_box_length vs ps P.1)

-- a constant that is admitted is finite, and its hull fits
pub constant-admitted : (S : ℕ) (x : Float) → is_some (cond (float_is_finite x && fits (hull S x)) (Some (hull S x)) None) ≡ true → (float_is_finite x ≡ true) × (fits (hull S x) ≡ true)
constant-admitted S x e = go (float_is_finite x && fits (hull S x)) refl e
  where
    go : (b : Bool) → (float_is_finite x && fits (hull S x)) ≡ b → is_some (cond b (Some (hull S x)) None) ≡ true → (float_is_finite x ≡ true) × (fits (hull S x) ≡ true)
    go true q e = and_parts (float_is_finite x) (fits (hull S x)) q
    go false q e = absurd (true≢false (sym e))

-- at a point of the box, over sound lines
module _ (k : KindMeaning) (m : MethodMeaning) (order : ℕ) (box : List Var) (point : List Fraction) (lines : List Worked) (exacts : List (Option Fraction))
    (six : length box ≤ 6) (P : InBox box point) (L : SoundLines k m (units box point) lines exacts) where
  abbrev us : List Fraction
  us = units box point

  abbrev here : Ground
  here = ground order box lines

  unit-point : Units us
  unit-point = (points_hold box point P).coordinates

  -- a variable's model is normal, whatever its numbers
  variable-normal : (v : ℕ) → v < length box → Normal (variable_model v (get_or box v no_variable))
  variable-normal v h =
      let w = get_or box v no_variable in
      let b = nat_abs w.centre + nat_abs w.half in
      ((forms_kept k m order).variables v b w (omega arith) (record { low = omega (arith, ints); high = omega (arith, ints) }) (record { low = omega (arith, ints); high = omega (arith, ints) })).normal

  token-holds : (s : Stack) (xs : List Fraction) (t : Token) {u : Stack} → Carried k m order us s.operands xs → admitted k.scale (length box) (length lines) t ≡ Ok tt →
      run_token k m here s t ≡ Ok u → Leaves k m order us (exact_token k.scale point exacts xs t) u
  token-holds s xs (Constant c) B a q =
      let (f, h) = constant-admitted k.scale c (require_ok (is_some (hulled k.scale c)) _ _ a).0 in
      let fit = fits-sized (hull_ordered k.scale c) h in
      record {
        exacts = value c ∷ xs;
        exact = ap (λ b. pushed (cond b (Some (value c)) None) xs) f;
        beside = push-holds k m order us s xs (constant k (hull k.scale c)) true (value c) B ((forms_kept k m order).constants (hull k.scale c) fit).normal
            ((arithmetic_encloses k m order us unit-point).1.constants c fit) q;
      }
  token-holds s xs (Variable v) B a q =
      let there = ltb-true v (length box) (require_ok (ltb v (length box)) _ _ a).0 in
      let long = in_box_length box point P in
      let p = get_or point v (whole (pos 0)) in
      record {
        exacts = per p k.scale ∷ xs;
        exact = ap (λ o. pushed (option_map (λ x. per x k.scale) o) xs) (slice_get-get_or point v (whole (pos 0)) (omega arith));
        beside = push-holds k m order us s xs (variable_model v (get_or box v no_variable)) true (per p k.scale) B (variable-normal v there)
            ((points_hold box point P).in_units k v no_variable (whole (pos 0)) there six) q;
      }
  token-holds s xs (Line n) B a q =
      let there = ltb-true n (length lines) (require_ok (ltb n (length lines)) _ _ a).0 in
      let S = L.each n there in
      record {
        exacts = S.value ∷ xs;
        exact = ap (λ o. pushed o xs) S.exact;
        beside = push-holds k m order us s xs (get_or lines n no_line).model (get_or lines n no_line).clean S.value B S.tested.normal S.carries q;
      }
  token-holds s xs (Power e) B a q = unary-holds k m order us s s.operands xs (power k m order e) (λ x. powᶠ x e) B (power-holds k m order us unit-point e) q
  token-holds s xs Add B a q = binary-holds k m order us s s.operands xs _ (λ x y. x +ᶠ y) B (sum-holds k m order us unit-point) q
  token-holds s xs Subtract B a q = binary-holds k m order us s s.operands xs _ (λ x y. x -ᶠ y) B (difference-holds k m order us unit-point) q
  token-holds s xs Multiply B a q = binary-holds k m order us s s.operands xs _ (λ x y. x *ᶠ y) B (product-holds k m order us unit-point) q

  -- the exact values that some items leave beside a stack
  abbrev Left : List Fraction → List Item → Stack → Type 0
  Left xs is u = (ys : List Fraction) × Carried k m order us u.operands ys × (exact_run k.scale point exacts xs (read_tokens is) ≡ alone ys)

  -- one item before them
  left_by : (xs : List Fraction) (i : Item) (is : List Item) (t : Token) (u : Stack) {v : Stack} (T : Leaves k m order us (exact_token k.scale point exacts xs t) v) → i.token ≡ Ok t →
      Left T.exacts is u → Left xs (i ∷ is) u
  left_by xs i is t u T p (ys, C, z) =
      let read = ap (λ x. exact_run k.scale point exacts xs (added x (read_tokens is))) p in
      let run = ap (λ o. onward o (λ x. exact_run k.scale point exacts x (read_tokens is))) T.exact in
      (ys, C, read ∙ run ∙ z)

  -- one item after the other
  items_hold : (s : Stack) (xs : List Fraction) (is : List Item) (u : Stack) → Carried k m order us s.operands xs → run_items k m here s is ≡ Ok u → Left xs is u
  unfolding run_items
  items_hold s xs [] u B q = (xs, subst (λ (u : Stack). Carried k m order us u.operands xs) (same-value q) B, refl)
  items_hold s xs (i ∷ is) u B q =
      let (v, e, r) = and_then_ok (at_place i.place (run_item k m here s i)) (λ v. run_items k m here v is) q in
      let (t, p, e1) = and_then_ok i.token _ (at_place_ok i.place (run_item k m here s i) e) in
      let (_, a, e2) = and_then_ok (admitted k.scale (length box) (length lines) t) (λ _. run_token k m here s t) e1 in
      let T = token-holds s xs t B a e2 in
      left_by xs i is t u T p (items_hold v T.exacts is u T.beside r)

  -- the one operand that is left
  concluded_sound : (n : ℕ) (s : Stack) (Ms : List Model) (ys : List Fraction) (r : Option Fraction) (w : Worked) → Carried k m order us Ms ys → concluded n s Ms ≡ Ok w → r ≡ alone ys → SoundLine k m us w r
  concluded_sound n s [] ys r w B c e = absurd (not_refused c)
  concluded_sound n s (M ∷ []) [] r w B c e = absurd B
  concluded_sound n s (M ∷ []) (y ∷ []) r w B c e =
      subst (λ (x : Worked). SoundLine k m us x r) (same-value c) (record { value = y; exact = e; tested = B.0.tests; carries = B.0.carries })
  concluded_sound n s (M ∷ []) (y ∷ (x ∷ ys)) r w B c e = absurd B.1
  concluded_sound n s (M ∷ (N ∷ Ms)) ys r w B c e = absurd (not_refused c)

pub work_sound : WorkSound
unfolding work
work_sound k m order box point lines exacts text w six P L q =
    let (s, e, c) = and_then_ok (run_items k m (ground order box lines) (stack [] 0 true) (items text)) _ q in
    let (ys, B, z) = items_hold k m order box point lines exacts six P L (stack [] 0 true) [] (items text) s tt e in
    concluded_sound k m order box point lines exacts six P L (length text) s s.operands ys (exact_tokens k.scale point exacts (tokens text)) w B c z
