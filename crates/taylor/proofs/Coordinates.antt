-- A point of a box: its unit coordinates lie from -1 to 1, and each mark is c + h·u. Assumes nothing.
use Rattle.std.proofs.Common.{◌≡◌, ℕ, zero, suc, ◌<◌, ◌≤◌, List, [], ◌∷◌, length, get_or, ℤ, pos, negsuc, ◌+ℤ◌, ◌-ℤ◌, nat_abs, sym, refl, ap, ◌∙◌, subst, zero-lt-suc, arith}
use borrow.Author.Differences.{ints}
use Rattle.rational.specs.Fraction.{Fraction, whole, per, ◌+ᶠ◌, ◌-ᶠ◌, ◌*ᶠ◌}
use Rattle.rational.proofs.Solver.{lit, ◌⊕◌, ◌⊗◌, ◌⊝◌, ◌≈◌, ring1, ring2, ring3}
use Rattle.rational.proofs.Rational.{ℚ, ⟦◌⟧, ◌+ℚ◌, ◌-ℚ◌, ◌*ℚ◌, of, of_is, of_+, of_sub, ℚ_ring, nonneg_cancel, ◌≤ℚ◌, add_is, mul_is, sub_is, over_is, eq_out}
use Rattle.rational.proofs.Order.{≤ℚ_antisym}
use Rattle.interval.specs.declared.marks.Interval.{Interval}
use Rattle.interval.specs.declared.variable.Variable.{Variable}
use Rattle.interval.specs.Interval.{interval, ◌within◌}
use Rattle.interval.proofs.Enclosure.{◌inside◌, inside_of, within_of, inside_ordered}
use Rattle.table.specs.Monomial.{constant_monomial, linear}
use Rattle.polynomial.specs.Reach.{term}
use Rattle.polynomial.specs.Value.{Units}
use Rattle.taylor.specs.Box.{InBox, units}
use Rattle.taylor.specs.Arithmetic.{variable_model}
use Rattle.taylor.specs.Selection.{marks}
use Rattle.taylor.specs.Enclosure.{PointsHold}
use Rattle.taylor.proofs.Sizes.{scale-above}
use Rattle.taylor.proofs.Monomials.{value_zeros, value_single}
use Rattle.taylor.proofs.Values.{Holds, selects_out, dropped-value}
use Rattle.taylor.proofs.Carrying.{inside-point}

-- ---- one variable with centre c and half width h
abbrev unital : Interval
unital = interval (negsuc 0) (pos 1)

pub record Coordinate (c h : ℤ) (p u : Fraction) : Type 0 where
  pub unital_is : u within unital
  pub mark_is : ⟦ p ⟧ ≡ of c +ℚ of h *ℚ ⟦ u ⟧

coordinate : (c h : ℤ) (p : Fraction) → ⟦ p ⟧ inside interval (c -ℤ h) (c +ℤ h) → Coordinate c h p (per (p -ᶠ whole c) (nat_abs h))
coordinate c (negsuc n) p P = let o = inside_ordered P in absurd (omega (arith, ints))
coordinate c (pos zero) p P =
    let l : of c ≤ℚ ⟦ p ⟧ = subst (λ (z : ℤ). of z ≤ℚ ⟦ p ⟧) (less c) P.low in
    let h : ⟦ p ⟧ ≤ℚ of c = subst (λ (z : ℤ). ⟦ p ⟧ ≤ℚ of z) (more c) P.high in
    record {
      unital_is = record { low = omega (arith, ints); high = omega (arith, ints) };
      mark_is = ≤ℚ_antisym h l ∙ rw (← of_is (pos 0)) (ring1 ℚ_ring (λ c. c ≈ c ⊕ lit (pos 0) ⊗ lit (pos 0)) tt (of c));
    }
  where
    less : (c : ℤ) → c -ℤ pos 0 ≡ c
    less c = omega (arith, ints)

    more : (c : ℤ) → c +ℤ pos 0 ≡ c
    more c = omega (arith, ints)
coordinate c (pos (suc h)) p P = record {
  unital_is = within_of (record {
    low = record { diff = nonneg_cancel (suc h) (omega arith) (rw low_is P.low.diff) };
    high = record { diff = nonneg_cancel (suc h) (omega arith) (rw high_is P.high.diff) };
  });
  mark_is = ring2 ℚ_ring (λ p c. p ≈ c ⊕ (p ⊝ c)) tt ⟦ p ⟧ (of c) ∙ rw (← times) (ring3 ℚ_ring (λ c u n. c ⊕ u ⊗ n ≈ c ⊕ n ⊗ u) tt (of c) u n);
}
  where
    u : ℚ
    u = ⟦ per (p -ᶠ whole c) (suc h) ⟧

    n : ℚ
    n = of (pos (suc h))

    times : u *ℚ n ≡ ⟦ p ⟧ -ℚ of c
    times = over_is (p -ᶠ whole c) (suc h) (zero-lt-suc h) ∙ sym (sub_is p (whole c)) ∙ ap (λ z. ⟦ p ⟧ -ℚ z) (sym (of_is c))

    low_is : (u -ℚ of (negsuc 0)) *ℚ n ≡ ⟦ p ⟧ -ℚ of (c -ℤ pos (suc h))
    low_is = ring2 ℚ_ring (λ u n. (u ⊝ lit (negsuc 0)) ⊗ n ≈ u ⊗ n ⊕ n) tt u n ∙ ap (λ z. z +ℚ n) times ∙ rw (of_sub c (pos (suc h))) (ring3 ℚ_ring (λ p c n. (p ⊝ c) ⊕ n ≈ p ⊝ (c ⊝ n)) tt ⟦ p ⟧ (of c) n)

    high_is : (of (pos 1) -ℚ u) *ℚ n ≡ of (c +ℤ pos (suc h)) -ℚ ⟦ p ⟧
    high_is = ring2 ℚ_ring (λ u n. (lit (pos 1) ⊝ u) ⊗ n ≈ n ⊝ u ⊗ n) tt u n ∙ ap (λ z. n -ℚ z) times ∙ rw (of_+ c (pos (suc h))) (ring3 ℚ_ring (λ p c n. n ⊝ (p ⊝ c) ≈ (c ⊕ n) ⊝ p) tt ⟦ p ⟧ (of c) n)

-- ---- all variables
box-units : (box : List Variable) (point : List Fraction) → InBox box point → Units (units box point)
box-units [] [] h = tt
box-units [] (p ∷ ps) h = absurd h
box-units (v ∷ vs) [] h = absurd h
box-units (v ∷ vs) (p ∷ ps) h = ((coordinate v.centre v.half p (inside_of h.0)).unital_is, box-units vs ps h.1)

length-units : (box : List Variable) (point : List Fraction) → InBox box point → length (units box point) ≡ length box
length-units [] [] h = refl
length-units [] (p ∷ ps) h = absurd h
length-units (v ∷ vs) [] h = absurd h
length-units (v ∷ vs) (p ∷ ps) h = ap suc (length-units vs ps h.1)

box_mark : (box : List Variable) (point : List Fraction) → InBox box point → (n : ℕ) (d : Variable) (p u : Fraction) → n < length box
    → ⟦ get_or point n p ⟧ ≡ of (get_or box n d).centre +ℚ of (get_or box n d).half *ℚ ⟦ get_or (units box point) n u ⟧
box_mark [] point h n d p u l = absurd (omega arith)
box_mark (v ∷ vs) [] h n d p u l = absurd h
box_mark (v ∷ vs) (q ∷ qs) h zero d p u l = (coordinate v.centre v.half q (inside_of h.0)).mark_is
box_mark (v ∷ vs) (q ∷ qs) h (suc n) d p u l = box_mark vs qs h.1 n d p u (omega arith)

-- the model c + h·u
variable-holds : (us : List Fraction) (n : ℕ) (v : Variable) (d : Fraction) → n < 6 → n < length us → Holds us (variable_model n v) (of v.centre +ℚ of v.half *ℚ ⟦ get_or us n d ⟧)
unfolding variable_model
variable-holds us n v d h l =
    let c = of v.centre in
    let w = of v.half in
    let u = ⟦ get_or us n d ⟧ in
    let tail = w *ℚ u +ℚ of (pos 0) in
    let whole_in : (z : ℤ) → ⟦ whole z ⟧ inside interval z z = λ z. inside-point z (sym (of_is z)) in
    record {
      poly = c +ℚ w *ℚ u;
      rest = of (pos 0);
      poly_in = dropped-value us (term constant_monomial (interval v.centre v.centre) ∷ (term (linear n) (interval v.half v.half) ∷ [])) (c +ℚ w *ℚ u) (
        whole v.centre,
        tail,
        whole_in v.centre,
        (whole v.half, of (pos 0), whole_in v.half, refl, rw (value_single us 6 n d h l, ← of_is v.half) refl),
        rw (value_zeros us 6, ← of_is v.centre) (ring3 ℚ_ring (λ c w u. c ⊕ w ⊗ u ≈ c ⊗ lit (pos 1) ⊕ (w ⊗ u ⊕ lit (pos 0))) tt c w u),
      );
      rest_in = inside-point (pos 0) refl;
      sum = ring3 ℚ_ring (λ c w u. c ⊕ w ⊗ u ≈ (c ⊕ w ⊗ u) ⊕ lit (pos 0)) tt c w u;
    }

-- p marks over the scale, in marks
per-marks : (S : ℕ) → 0 < S → (p : Fraction) → ⟦ marks S (per p S) ⟧ ≡ ⟦ p ⟧
per-marks zero above p = absurd (omega arith)
per-marks (suc n) above p = sym (mul_is (per p (suc n)) (whole (pos (suc n)))) ∙ ap (λ z. ⟦ per p (suc n) ⟧ *ℚ z) (sym (of_is (pos (suc n)))) ∙ over_is p (suc n) (zero-lt-suc n)

pub points_hold : PointsHold
points_hold box point h = record {
  coordinates = box-units box point h;
  marks_are = λ n d p u l. let v = get_or box n d in let w = get_or (units box point) n u in
      eq_out (get_or point n p) (whole v.centre +ᶠ whole v.half *ᶠ w) (box_mark box point h n d p u l ∙ simp (of_is, mul_is, add_is));
  variables = λ n d p l few. selects_out (units box point) (get_or point n p) (box_mark box point h n d p (whole (pos 0)) l) (held n d few l);
  in_units = λ k n d p l few. selects_out (units box point) (marks k.scale (per (get_or point n p) k.scale))
      (per-marks k.scale (scale-above k) (get_or point n p) ∙ box_mark box point h n d p (whole (pos 0)) l) (held n d few l);
}
  where
    held : (n : ℕ) (d : Variable) → length box ≤ 6 → n < length box
        → Holds (units box point) (variable_model n (get_or box n d)) (of (get_or box n d).centre +ℚ of (get_or box n d).half *ℚ ⟦ get_or (units box point) n (whole (pos 0)) ⟧)
    held n d few l = variable-holds (units box point) n (get_or box n d) (whole (pos 0)) (omega arith) (omega (arith, length-units box point h))
