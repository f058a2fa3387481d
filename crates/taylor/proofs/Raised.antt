-- Powers, product by product: as many as are left bring what was worked so far to the same end. Assumes nothing.
use Rattle.std.proofs.Common.{◌≡◌, ℕ, suc, ◌+◌, ◌-◌, ◌<◌, ◌≤◌, true, length, pos, Ok, Err, Result, sym, ap, ◌∙◌, arith, lit≤}
use Rattle.std.proofs.ByRecursion.{All-weaker}
use Rattle.interval.specs.declared.reason.Reason.{Reason}
use Rattle.interval.specs.Interval.{limit, Sized, interval}
use Rattle.interval.specs.Kind.{KindMeaning, twice_limit}
use Rattle.interval.specs.Reason.{and_then}
use Rattle.interval.proofs.Sizes.{sized_weaken}
use Rattle.polynomial.specs.Method.{MethodMeaning}
use Rattle.taylor.specs.declared.model.ModelRecord.{ModelRecord}
use Rattle.taylor.specs.declared.worked.WorkedRecord.{WorkedRecord}
use Rattle.taylor.specs.Model.{Model, packed, unpacked, tested}
use Rattle.taylor.specs.Form.{greatest_order, Degrees, Normal, Tested}
use Rattle.taylor.specs.Arithmetic.{one}
use Rattle.taylor.specs.Product.{Worked, worked, times_worked, raised, power}
use Rattle.taylor.specs.Keeping.{room}
use Rattle.taylor.specs.Record.{Held, Ready, passed, worked_of, packed_worked, recorded_worked}
use Rattle.taylor.proofs.Results.{same-value, and_then_ok}
use Rattle.taylor.proofs.Made.{test_made, pairs-counted}
use Rattle.taylor.proofs.Sizes.{one-fits}
use Rattle.taylor.proofs.Forms.{constant_formed}
use Rattle.taylor.proofs.Tests.{times-kept, power-kept}
use Rattle.taylor.proofs.Keeps.{packing}
use Rattle.taylor.proofs.Multiplied.{and_then_err, formed_held}

-- ---- records that may be tested
held_more : {n : ℕ} {r : ModelRecord} (b : ℕ) → n ≤ b → Held n r → Held b r
held_more {n} {r} b h s = record {
  canonical = s.canonical;
  sized = record {
    coefficients = All-weaker (λ t. Sized n t.coefficient) (λ t. Sized b t.coefficient) (λ t f. sized_weaken h f) (unpacked r).terms s.sized.coefficients;
    remainder = sized_weaken h s.sized.remainder;
  };
}

pub ready_held : {m : MethodMeaning} {r : ModelRecord} → Ready m r → Held room r
ready_held h = held_more {n = limit} room (lit≤ tt) (record { canonical = h.canonical; sized = h.tested.sized })

pub one-held : (k : KindMeaning) (r : ModelRecord) → r ≡ packed (one k) → Held room r
one-held k r e = held_more {n = twice_limit} room (lit≤ tt) (formed_held 0 twice_limit (one k) r (lit≤ tt) (constant_formed k (interval (pos k.scale) (pos k.scale)) (one-fits k)) e)

-- the record of a tested model
tested_ready : (m : MethodMeaning) (d : ℕ) (M : Model) (r : ModelRecord) → d ≤ greatest_order → Tested m M → Degrees d M.terms → r ≡ packed M → Ready m r
tested_ready m d M r low T D is = record {
  canonical = (formed_held d limit M r low (record { normal = T.normal; degrees = D; sized = T.sized }) is).canonical;
  tested = rw (is, packing.back M) T;
}

-- ---- a model alone
pub alone-passed : (m : MethodMeaning) (r : ModelRecord) → Held room r → Ok tt ≡ passed (tested m (unpacked r))
    → Ok (record { model = r; pairs = 0; clean = true }) ≡ recorded_worked (and_then (tested m (unpacked r)) (λ N. Ok (worked N 0 true)))
alone-passed m r h t =
    let R = and_then_ok (tested m (unpacked r)) (λ _. Ok tt) (sym t) in
    let same = (test_made m (unpacked r) R.0 R.1).is in
    ap (λ s. Ok (record { model = s; pairs = 0; clean = true })) (sym (packing.same r h.canonical))
    ∙ ap (λ x. recorded_worked (and_then x (λ N. Ok (worked N 0 true)))) (sym (R.1 ∙ ap Ok same))

-- ---- one product more
module _ (k : KindMeaning) (m : MethodMeaning) (order : ℕ) (W V : WorkedRecord) (N : Model) (h : Ok V ≡ recorded_worked (times_worked k m order (worked_of W) N)) where
  came : (v : Worked) × (times_worked k m order (worked_of W) N ≡ Ok v) × (◌≡◌ {A = Result WorkedRecord Reason} (Ok (packed_worked v)) (Ok V))
  came = and_then_ok (times_worked k m order (worked_of W) N) (λ v. Ok (packed_worked v)) (sym h)

  is : V ≡ packed_worked came.0
  is = sym (same-value came.2)

  pub next_is : times_worked k m order (worked_of W) N ≡ Ok (worked_of V)
  next_is =
      let v = came.0 in
      came.1 ∙ ap Ok (sym (ap worked_of is ∙ (λ i. record { model = packing.back v.model i; pairs = v.pairs; clean = v.clean })))

  -- its record is an operand again
  pub times_ready : order ≤ greatest_order → Normal (unpacked W.model) → Normal N → Ready m V.model
  times_ready low A B =
      let t = times-kept k m order (worked_of W) came.0 N A B came.1 in
      tested_ready m order came.0.model V.model low t.0 t.1 (ap (λ (R : WorkedRecord). R.model) is)

  -- and has at most 1600 pairs more
  pub times_counted : length (unpacked W.model).terms ≤ 40 → length N.terms ≤ 40 → V.pairs ≤ W.pairs + 1600
  times_counted a b = pairs-counted k m order (worked_of W) (worked_of V) N next_is a b

-- ---- as many as are left
module _ (k : KindMeaning) (m : MethodMeaning) (order : ℕ) (N : Model) (n i : ℕ) where
  left : i < n → (w : Worked) → raised k m order (n - i) w N ≡ and_then (times_worked k m order w N) (λ v. raised k m order (n - (i + 1)) v N)
  unfolding raised
  left h w = let e : n - i ≡ suc (n - (i + 1)) = omega arith in ap (λ j. raised k m order j w N) e

  module _ (W : WorkedRecord) (start : Worked) (so_far : raised k m order (n - i) (worked_of W) N ≡ raised k m order n start N) where
    pub raised-refused : i < n → (e : Reason) → Err e ≡ recorded_worked (times_worked k m order (worked_of W) N) → Err e ≡ recorded_worked (raised k m order n start N)
    raised-refused h e r = ap (λ x. recorded_worked (and_then x (λ v. raised k m order (n - (i + 1)) v N))) (sym (and_then_err (times_worked k m order (worked_of W) N) packed_worked e r)) ∙ ap recorded_worked (sym (left h (worked_of W)) ∙ so_far)

    pub raised_again : i < n → (V : WorkedRecord) → Ok V ≡ recorded_worked (times_worked k m order (worked_of W) N) → raised k m order (n - (i + 1)) (worked_of V) N ≡ raised k m order n start N
    raised_again h V r = ap (λ x. and_then x (λ v. raised k m order (n - (i + 1)) v N)) (sym (next_is k m order W V N r)) ∙ sym (left h (worked_of W)) ∙ so_far

-- ---- powers
module _ (k : KindMeaning) (m : MethodMeaning) (order : ℕ) (M : Model) where
  pub power_none : (n : ℕ) → n ≡ 0 → (r : ModelRecord) → r ≡ packed (one k) → (x : Result WorkedRecord Reason) → x ≡ recorded_worked (and_then (tested m (unpacked r)) (λ N. Ok (worked N 0 true))) → x ≡ recorded_worked (power k m order n M)
  unfolding power
  power_none n z r e x h = h ∙ ap (λ N. recorded_worked (and_then (tested m N) (λ N. Ok (worked N 0 true)))) (ap unpacked e ∙ packing.back (one k)) ∙ ap (λ j. recorded_worked (power k m order j M)) (sym z)

-- its record is an operand again
pub power_ready : (k : KindMeaning) (m : MethodMeaning) (order n : ℕ) (r : ModelRecord) (W : WorkedRecord) → order ≤ greatest_order → Ready m r → Ok W ≡ recorded_worked (power k m order n (unpacked r)) → Ready m W.model
power_ready k m order n r W low h e =
    let c = and_then_ok (power k m order n (unpacked r)) (λ v. Ok (packed_worked v)) (sym e) in
    let t = power-kept k m order greatest_order n (unpacked r) c.0 low h.tested h.canonical.degrees c.1 in
    tested_ready m greatest_order c.0.model W.model (lit≤ tt) t.0 t.1 (ap (λ (R : WorkedRecord). R.model) (sym (same-value c.2)))
