-- Two given ends: where one of their hulls does not fit the variable is refused, and where both fit it is sound. Hulls are
-- monotone, so that the two outer ends fit exactly where both hulls do. Assumes nothing.
use Rattle.std.proofs.Common.{◌≡◌, ℕ, true, false, ◌&&◌, ℤ, pos, ◌+ℤ◌, ◌*ℤ◌, ◌≤ℤ◌, ◌<ℤ◌, Some, None, Ok, Err, sym, ap, ◌∙◌, subst, ap₂, arith, lit<}
use lib.Ieee.{Float, lt}
use borrow.Author.Differences.{ints}
use Rattle.std.specs.Float.{float_is_finite}
use Rattle.std.proofs.lemmas.Option.{cond_some}
use Rattle.std.proofs.lemmas.Bool.Decides.{nat_tests}
use Rattle.rational.specs.Fraction.{Fraction, whole, ◌*ᶠ◌, ◌≤ᶠ◌}
use Rattle.rational.proofs.Laws.{transitive}
use Rattle.interval.specs.declared.marks.Interval.{Interval}
use Rattle.interval.specs.declared.variable.Variable.{Variable}
use Rattle.interval.specs.declared.reason.Reason.TheVariants.{EndNotFinite, EndsCrossed, EndDoesNotFit}
use Rattle.interval.specs.Interval.{interval, Fits, fits, floor_div, ◌within◌}
use Rattle.interval.specs.Hull.{value, rounded, hull, hulled}
use Rattle.interval.specs.Reason.{require}
use Rattle.interval.specs.Variable.{both_finite, uncrossed, hull_ends, centred, variable, variable_of, Sound}
use Rattle.interval.proofs.Enclosure.{floor_le, hull-holds, inside_of, within_of, inside_wider}
use Rattle.interval.proofs.Rounding.{floor_next}
use Rattle.interval.proofs.Passing.{same-value, require_ok, none_chosen}
use Rattle.interval.proofs.Sizes.{fits-sized}
use Rattle.interval.proofs.Orders.{value_le, scaled_le, hull_mono, hull_ordered}

-- ---- one hull
module _ (S : ℕ) (x : Float) (p : float_is_finite x ≡ true) where
  pub hull-fits : (i : Interval) → Some i ≡ hulled S x → (fits (hull S x) ≡ true) × (i ≡ hull S x)
  hull-fits i e = let h = cond_some (float_is_finite x && fits (hull S x)) (hull S x) i (sym e) in (sym (ap (λ b. b && fits (hull S x)) p) ∙ h.0, sym h.1)

  pub hull_unfit : None ≡ hulled S x → fits (hull S x) ≡ false
  hull_unfit e = sym (ap (λ b. b && fits (hull S x)) p) ∙ none_chosen (hull S x) (float_is_finite x && fits (hull S x)) e

-- ---- the two outer ends
low_out : (a b c : ℤ) → b ≤ℤ c → fits (interval a b) ≡ false → fits (interval a c) ≡ false
low_out a b c h e = grind (arith, ints)

high_out : (a b c : ℤ) → a ≤ℤ b → fits (interval b c) ≡ false → fits (interval a c) ≡ false
high_out a b c h e = grind (arith, ints)

both_in : (a b c d : ℤ) → fits (interval a b) ≡ true → fits (interval c d) ≡ true → fits (interval a d) ≡ true
both_in a b c d e f = grind (arith, ints)

-- ends inside others fit where those do
pub inner_fits : (S : ℕ) (x y u w : Float) → value x ≤ᶠ value u → value w ≤ᶠ value y → fits (hull_ends S x y) ≡ true → fits (hull_ends S u w) ≡ true
inner_fits S x y u w p q = go (hull S x).lower (hull S u).lower (hull S w).upper (hull S y).upper (hull_mono S x u p).0 (hull_mono S w y q).1
  where
    go : (a b c d : ℤ) → a ≤ℤ b → c ≤ℤ d → fits (interval a d) ≡ true → fits (interval b c) ≡ true
    go a b c d h k e = grind (arith, ints)

-- ---- centre and half width of a and b
middle : (a b : ℤ) → let c = floor_div (a +ℤ b) 2 in ((c *ℤ pos 2) ≤ℤ (a +ℤ b)) × ((a +ℤ b) <ℤ (c *ℤ pos 2 +ℤ pos 2))
middle a b = (floor_le (a +ℤ b) 2 (lit< tt), floor_next (a +ℤ b) 2 (lit< tt))

within-span : {l u : ℤ} {v : Fraction} (a b : ℤ) → whole a ≤ᶠ v → v ≤ᶠ whole b → l ≤ℤ a → b ≤ℤ u → v within interval l u
within-span {l} {u} {v} a b p q h k =
    let m : v within interval a b = record { low = p; high = q } in
    within_of (inside_wider (inside_of m) h k)

module _ (S : ℕ) (x y : Float) (p : float_is_finite x ≡ true) (q : float_is_finite y ≡ true) (h : lt y x ≡ false) where
  tested : variable_of S x y ≡ require (fits (hull_ends S x y)) EndDoesNotFit (Ok (variable S x y))
  tested = rw (p, q, h)

  abbrev Refused : Type 0
  Refused = Err EndDoesNotFit ≡ variable_of S x y

  refuse : fits (hull_ends S x y) ≡ false → Refused
  refuse e = sym (tested ∙ ap (λ b. require b EndDoesNotFit (Ok (variable S x y))) e)

  ordered : value x ≤ᶠ value y
  ordered = value_le x y p q h

  pub lower_unfit : None ≡ hulled S x → Refused
  lower_unfit e = refuse (low_out (hull S x).lower (hull S x).upper (hull S y).upper (hull_mono S x y ordered).1 (hull_unfit S x p e))

  pub upper_unfit : None ≡ hulled S y → Refused
  upper_unfit e = refuse (high_out (hull S x).lower (hull S y).lower (hull S y).upper (hull_mono S x y ordered).0 (hull_unfit S y q e))

  ends-sized : fits (hull_ends S x y) ≡ true → Fits (hull_ends S x y)
  ends-sized e =
      let l = (hull_mono S x y ordered).0 in
      let o = hull_ordered S y in
      fits-sized (omega (arith, ints)) e

  module _ (i j : Interval) (e : Some i ≡ hulled S x) (f : Some j ≡ hulled S y) where
    both-fit : fits (hull_ends S x y) ≡ true
    both-fit = both_in (hull S x).lower (hull S x).upper (hull S y).lower (hull S y).upper (hull-fits S x p i e).0 (hull-fits S y q j f).0

    same_ends : interval i.lower j.upper ≡ hull_ends S x y
    same_ends = ap₂ (λ a b. interval a.lower b.upper) (hull-fits S x p i e).1 (hull-fits S y q j f).1

    pub fitting : Fits (interval i.lower j.upper)
    fitting = subst Fits (sym same_ends) (ends-sized both-fit)

    pub accepted : Ok (centred x y (interval i.lower j.upper)) ≡ variable_of S x y
    unfolding variable
    accepted = ap (λ k. Ok (centred x y k)) same_ends ∙ sym (tested ∙ ap (λ b. require b EndDoesNotFit (Ok (variable S x y))) both-fit)

  sound : Fits (hull_ends S x y) → Sound S (variable S x y)
  unfolding variable hull
  sound s =
      let v = value x *ᶠ whole (pos S) in
      let w = value y *ᶠ whole (pos S) in
      let a = (rounded v).lower in
      let b = (rounded w).upper in
      let m = middle a b in
      let k = scaled_le S x y ordered in
      let low = (hull-holds v).low in
      let high = (hull-holds w).high in
      record {
        wide = omega (arith, ints);
        centre = record { low = omega (arith, ints); high = omega (arith, ints) };
        half = record { low = omega (arith, ints); high = omega (arith, ints) };
        lower = within-span a b low (transitive v w (whole b) k high) (omega (arith, ints)) (omega (arith, ints));
        upper = within-span a b (transitive (whole a) v w low k) high (omega (arith, ints)) (omega (arith, ints));
      }

-- a variable that is accepted passed the tests, and is the one that its ends make
pub accepted_tests : (S : ℕ) (x y : Float) {v : Variable} → variable_of S x y ≡ Ok v → (both_finite x y ≡ true) × (uncrossed x y ≡ true) × (fits (hull_ends S x y) ≡ true) × (v ≡ variable S x y)
accepted_tests S x y e =
    let (a, e1) = require_ok (both_finite x y) EndNotFinite _ e in
    let (b, e2) = require_ok (uncrossed x y) EndsCrossed _ e1 in
    let (c, e3) = require_ok (fits (hull_ends S x y)) EndDoesNotFit _ e2 in
    (a, b, c, sym (same-value e3))

-- and is sound
pub variable_sound : (S : ℕ) (x y : Float) (v : Variable) → Ok v ≡ variable_of S x y → Sound S v
variable_sound S x y v e =
    let (a, b, c, is) = accepted_tests S x y (sym e) in
    let p : float_is_finite x ≡ true = grind (arith, nat_tests) in
    let q : float_is_finite y ≡ true = grind (arith, nat_tests) in
    let h : lt y x ≡ false = grind (arith, nat_tests) in
    subst (Sound S) (sym is) (sound S x y p q h (ends-sized S x y p q h c))
