-- Ends that open a sheet still do when they are narrowed, since hulls are monotone. Assumes nothing.
use Rattle.std.proofs.Common.{◌≡◌, ℕ, ◌+◌, true, not, ◌&&◌, [], ◌∷◌, Ok, refl, ap, ◌∙◌}
use lib.Ieee.{Float, lt}
use Rattle.std.specs.Float.{float_is_finite}
use Rattle.std.specs.List.{AllByRecursion}
use Rattle.std.proofs.lemmas.Bool.{not-true, and_parts}
use Rattle.interval.specs.declared.reason.Reason.TheVariants.{EndNotFinite, EndsCrossed, EndDoesNotFit}
use Rattle.interval.specs.Reason.{and_then}
use Rattle.interval.specs.Interval.{fits}
use Rattle.interval.specs.Variable.{both_finite, uncrossed, hull_ends, variable, variable_of}
use Rattle.interval.specs.Kind.{KindMeaning}
use Rattle.interval.proofs.GivenEnds.{inner_fits}
use Rattle.interval.proofs.Orders.{value_le}
use Rattle.taylor.proofs.Results.{and_then_ok, require_ok, require_yes}
use Rattle.formula.specs.Inputs as inputs
use Rattle.formula.specs.Work.{at_place}
use Rattle.sheet.specs.Box.{Ends, box_of, given_ends}
use Rattle.sheet.specs.State.{at_line}
use Rattle.sheet.specs.Opening.{ends_tested}
use Rattle.sheet.specs.Narrowing.{sound_ends}
use Rattle.formula.proofs.Faults.{at_line_ok, at_place_ok}

-- the ends of a variable that an opening accepts
pub record Good (S : ℕ) (e : Float × Float) : Type 0 where
  pub finites : both_finite e.0 e.1 ≡ true
  pub order : uncrossed e.0 e.1 ≡ true
  pub fit : fits (hull_ends S e.0 e.1) ≡ true

tests_good : (S n : ℕ) (es : Ends) → inputs.ends_tested S n es ≡ Ok tt → AllByRecursion (Good S) es
tests_good S n [] q = tt
tests_good S n (e ∷ es) q =
    let one = variable_of S e.0 e.1 in
    let (v, p, rest) = and_then_ok (at_place n one) (λ _. inputs.ends_tested S (n + 1) es) q in
    let made = at_place_ok n one p in
    let (a, q1) = require_ok (both_finite e.0 e.1) EndNotFinite _ made in
    let (b, q2) = require_ok (uncrossed e.0 e.1) EndsCrossed _ q1 in
    let (c, q3) = require_ok (fits (hull_ends S e.0 e.1)) EndDoesNotFit _ q2 in
    (record { finites = a; order = b; fit = c }, tests_good S (n + 1) es rest)

pub tested_good : (S n : ℕ) (es : Ends) → ends_tested S n es ≡ Ok tt → AllByRecursion (Good S) es
tested_good S n es q = tests_good S n es (at_line_ok 0 (inputs.ends_tested S n es) q)

good_variable : (S : ℕ) (e : Float × Float) → Good S e → variable_of S e.0 e.1 ≡ Ok (variable S e.0 e.1)
good_variable S e G =
    require_yes (both_finite e.0 e.1) EndNotFinite _ G.finites
    ∙ require_yes (uncrossed e.0 e.1) EndsCrossed _ G.order
    ∙ require_yes (fits (hull_ends S e.0 e.1)) EndDoesNotFit _ G.fit

good_tests : (S n : ℕ) (es : Ends) → AllByRecursion (Good S) es → inputs.ends_tested S n es ≡ Ok tt
good_tests S n [] G = refl
good_tests S n (e ∷ es) G = ap (λ r. and_then (at_place n r) (λ _. inputs.ends_tested S (n + 1) es)) (good_variable S e G.0) ∙ good_tests S (n + 1) es G.1

pub good_tested : (S n : ℕ) (es : Ends) → AllByRecursion (Good S) es → ends_tested S n es ≡ Ok tt
good_tested S n es G = ap (at_line 0) (good_tests S n es G)

-- sound ends inside good ones are good
pub narrowed_good : (S : ℕ) (a b x y : Float) → Good S (a, b) → sound_ends x y ≡ true → (not (lt x a) && not (lt b y)) ≡ true → Good S (x, y)
narrowed_good S a b x y G s i =
    let (f, o) = and_parts (both_finite x y) (uncrossed x y) s in
    let (fx, fy) = and_parts (float_is_finite x) (float_is_finite y) f in
    let (fa, fb) = and_parts (float_is_finite a) (float_is_finite b) G.finites in
    let (ia, ib) = and_parts (not (lt x a)) (not (lt b y)) i in
    record {
      finites = f;
      order = o;
      fit = inner_fits S a b x y (value_le a x fa fx (not-true (lt x a) ia)) (value_le y b fy fb (not-true (lt b y) ib)) G.fit;
    }

-- a box keeps the ends as they were given
pub box_gives : (k : KindMeaning) (es : Ends) → given_ends (box_of k es) ≡ es
unfolding variable
box_gives k [] = refl
box_gives k (e ∷ es) = ap (λ r. e ∷ r) (box_gives k es)
