-- Each way out of a product, from the tally of its pairs. Assumes nothing.
use Rattle.std.proofs.Common.{◌≡◌, ℕ, ◌+◌, ◌*◌, ◌≤◌, Bool, true, false, ◌&&◌, leb, List, length, Ok, Err, Result, sym, ap, ◌∙◌, subst, ap₂, mul-le-mul, arith}
use Rattle.std.proofs.ByRecursion.{All-weaker}
use Rattle.std.proofs.lemmas.Bool.{le-leb}
use Rattle.interval.specs.declared.marks.Interval.{Interval}
use Rattle.interval.specs.declared.reason.Reason.{Reason}
use Rattle.interval.specs.declared.reason.Reason.TheVariants.{TooManyMonomials, DoesNotFit}
use Rattle.interval.specs.Interval.{Sized}
use Rattle.interval.specs.Kind.{KindMeaning, twice_limit}
use Rattle.interval.specs.Reason.{and_then, require}
use Rattle.polynomial.specs.declared.term.Term.{Term}
use Rattle.interval.proofs.Sizes.{sized_weaken}
use Rattle.table.specs.Monomial.{degree}
use Rattle.table.specs.Slice.{over}
use Rattle.table.specs.Slice as slice
use Rattle.polynomial.specs.Reach.{zero_term, dropped}
use Rattle.polynomial.specs.Method.{MethodMeaning}
use Rattle.taylor.specs.declared.model.ModelRecord.{ModelRecord}
use Rattle.taylor.specs.declared.tally.TallyRecord.{TallyRecord}
use Rattle.taylor.specs.declared.worked.WorkedRecord.{WorkedRecord}
use Rattle.taylor.specs.Model.{Model, model, packed, unpacked, tested}
use Rattle.taylor.specs.Form.{greatest_order, Normal, Formed}
use Rattle.taylor.specs.Product.{Worked, worked, three_fit, joint_remainder, product, times_worked}
use Rattle.taylor.specs.Keeping.{room}
use Rattle.taylor.specs.Record.{Held, recorded, passed, recorded_worked}
use Rattle.taylor.specs.Gathering.{Tally, product_tally, roomy, completed, tally_of, counted}
use Rattle.taylor.proofs.Results.{same-value, not_refused, and_then_ok, require_ok, require_yes}
use Rattle.taylor.proofs.Made.{test_made}
use Rattle.taylor.proofs.Forms.{product_formed}
use Rattle.taylor.proofs.Keeps.{packing}
use Rattle.taylor.proofs.Completing.{product-tallied, times-tallied}
use Rattle.taylor.proofs.Tallying.{tallied_kept}
use Rattle.taylor.proofs.Packed.{record_of, swept}

-- ---- results
same_reason : {A E : Type 0} {d e : E} → ◌≡◌ {A = Result A E} (Err d) (Err e) → d ≡ e
same_reason q = cc

-- a refusal came from a refusal
pub and_then_err : {A B E : Type 0} (r : Result A E) (f : A → B) (e : E) → Err e ≡ and_then r (λ x. Ok (f x)) → r ≡ Err e
and_then_err (Ok x) f e h = absurd (not_refused h)
and_then_err (Err d) f e h = ap Err (sym (same_reason h))

-- ---- the pairs
pub pairs-few : (a b : ModelRecord) → length (unpacked a).terms ≤ 40 → length (unpacked b).terms ≤ 40 → length (unpacked a).terms * length (unpacked b).terms ≤ 1600
pairs-few a b f g = omega (arith, mul-le-mul f g)

-- a refusal is the same whatever would have come
refused-same : {A B : Type 0} (b : Bool) (d e : Reason) (x : A) (r : Result B Reason) → Err e ≡ require b d (Ok x) → Err e ≡ require b d r
refused-same true d e x r h = absurd (not_refused h)
refused-same false d e x r h = ap Err (same_reason h)

-- the tally G of all pairs is refused, or it is told by the record that holds it
pub counted_none : (G : Tally) (e : Reason) → Err e ≡ roomy G.model → Err e ≡ counted G
counted_none G e h = refused-same (leb (length G.model.terms) 40) TooManyMonomials e tt _ h

pub counted_all : (Z : TallyRecord) {G : Tally} → tally_of Z ≡ G → Ok (tally_of Z) ≡ counted G
counted_all Z {G} is =
    let few : length G.model.terms ≤ 40 = subst (λ y. length y.model.terms ≤ 40) is (tallied_kept Z.form).packs.fits in
    ap Ok is ∙ sym (require_yes (leb (length G.model.terms) 40) TooManyMonomials (Ok G) (le-leb (length G.model.terms) 40 few))

-- ---- the product from its pairs
pub tally_left : (Z : TallyRecord) → Sized (1600 * twice_limit) Z.model.remainder
tally_left Z =
    let T = tallied_kept Z.form in
    let few = T.few in
    sized_weaken (omega arith) T.bounds.remainder

module _ (k : KindMeaning) (m : MethodMeaning) (Y : TallyRecord) (M N : Model) where
  abbrev rest : Result Interval Reason
  rest = require (three_fit k m M N) DoesNotFit (Ok (joint_remainder k m M N Y.model.remainder))

  pub rest_unfit : Y.fit ≡ true → (e : Reason) → Err e ≡ rest → Err e ≡ recorded (completed k m (tally_of Y) M N)
  unfolding completed
  rest_unfit t e h = rw t (ap recorded (refused-same (three_fit k m M N) DoesNotFit e _ _ h))

  pub completed_made : Y.fit ≡ true → (r : Interval) → Ok r ≡ rest
      → (after : List Term) (n : ℕ) → n ≡ length (dropped (unpacked Y.model).terms) → after ≡ over (slice.packed Y.model.count zero_term (dropped (unpacked Y.model).terms)) Y.model.terms
      → Ok (record { count = n; terms = after; remainder = r }) ≡ recorded (completed k m (tally_of Y) M N)
  unfolding completed
  completed_made t r h after n size is =
      let a = require_ok (three_fit k m M N) DoesNotFit (Ok (joint_remainder k m M N Y.model.remainder)) (sym h) in
      let q = swept Y.model.terms Y.model.count (unpacked Y.model).terms (tallied_kept Y.form).packs after n size is in
      rw (t, a.0) (ap Ok (record_of after n (dropped (unpacked Y.model).terms) r q ∙ ap (λ i. packed (model (dropped (unpacked Y.model).terms) i)) (sym (same-value a.1))))

-- ---- the tested product
-- the record of a model in form
pub formed_held : (d n : ℕ) (R : Model) (M : ModelRecord) → d ≤ greatest_order → Formed d n R → M ≡ packed R → Held n M
formed_held d n R M low F is =
    let G : Formed greatest_order n R = record { normal = F.normal; degrees = All-weaker (λ t. degree t.monomial ≤ d) (λ t. degree t.monomial ≤ greatest_order) (λ t l. omega arith) R.terms F.degrees; sized = F.sized } in
    rw is (record { canonical = packing.canonical n R G; sized = rw (packing.back R) F.sized })

module _ (k : KindMeaning) (m : MethodMeaning) (order : ℕ) (w : Worked) (N : Model) where
  abbrev U : Tally
  U = product_tally k order w.model N

  -- the product from the tally, with the test and the record
  abbrev joined : Result Model Reason → Result WorkedRecord Reason
  joined r = recorded_worked (and_then (and_then r (tested m)) (λ M. Ok (worked M (w.pairs + U.pairs) (w.clean && U.clean))))

  abbrev worked_out : Result WorkedRecord Reason
  worked_out = recorded_worked (times_worked k m order w N)

  made_by : joined (require (leb (length U.model.terms) 40) TooManyMonomials (completed k m U w.model N)) ≡ worked_out
  made_by = ap recorded_worked (sym (times-tallied k m order w N))

  pub too_many : (e : Reason) → Err e ≡ counted U → Err e ≡ worked_out
  too_many e h = ap joined (refused-same (leb (length U.model.terms) 40) TooManyMonomials e U (completed k m U w.model N) h) ∙ made_by

  module _ (y : TallyRecord) (g : Ok (tally_of y) ≡ counted U) where
    room_for : (leb (length U.model.terms) 40 ≡ true) × (◌≡◌ {A = Result Tally Reason} (Ok U) (Ok (tally_of y)))
    room_for = require_ok (leb (length U.model.terms) 40) TooManyMonomials (Ok U) (sym g)

    gathers : tally_of y ≡ U
    gathers = sym (same-value room_for.1)

    abbrev outcome : Result Model Reason
    outcome = completed k m (tally_of y) w.model N

    outcome_is : require (leb (length U.model.terms) 40) TooManyMonomials (completed k m U w.model N) ≡ outcome
    outcome_is = require_yes (leb (length U.model.terms) 40) TooManyMonomials (completed k m U w.model N) room_for.0 ∙ ap (λ u. completed k m u w.model N) (sym gathers)

    made_then : joined outcome ≡ worked_out
    made_then = ap joined (sym outcome_is) ∙ made_by

    pub unfit : (e : Reason) → Err e ≡ recorded outcome → Err e ≡ worked_out
    unfit e h = ap joined (sym (and_then_err outcome packed e h)) ∙ made_then

    module _ (M : ModelRecord) (h : Ok M ≡ recorded outcome) where
      came : (R : Model) × (outcome ≡ Ok R) × (◌≡◌ {A = Result ModelRecord Reason} (Ok (packed R)) (Ok M))
      came = and_then_ok outcome (λ R. Ok (packed R)) (sym h)

      view : unpacked M ≡ came.0
      view = ap unpacked (sym (same-value came.2)) ∙ packing.back came.0

      product_is : product k m order w.model N ≡ Ok came.0
      product_is = product-tallied k m order w.model N ∙ outcome_is ∙ came.1

      pub result_held : order ≤ greatest_order → Normal w.model → Normal N → Held room M
      result_held low A B =
          let F = product_formed k m order w.model N came.0 A B product_is in
          formed_held order room came.0 M low F (sym (same-value came.2))

      pub untested : (e : Reason) → Err e ≡ passed (tested m (unpacked M)) → Err e ≡ worked_out
      untested e t =
          let u = ap (tested m) (sym view) ∙ and_then_err (tested m (unpacked M)) (λ _. tt) e t in
          ap (λ r. recorded_worked (and_then r (λ R. Ok (worked R (w.pairs + U.pairs) (w.clean && U.clean))))) (sym u) ∙ ap joined (sym came.1) ∙ made_then

      pub multiplied : Ok tt ≡ passed (tested m (unpacked M)) → (clean : Bool) → clean ≡ (w.clean && y.clean) → Ok (record { model = M; pairs = w.pairs + y.pairs; clean = clean }) ≡ worked_out
      multiplied t clean c =
          let R = and_then_ok (tested m (unpacked M)) (λ _. Ok tt) (sym t) in
          let same : R.0 ≡ unpacked M = (test_made m (unpacked M) R.0 R.1).is in
          let u : tested m came.0 ≡ Ok came.0 = ap (tested m) (sym view) ∙ R.1 ∙ ap Ok (same ∙ view) in
          ap (λ b. Ok (record { model = M; pairs = w.pairs + y.pairs; clean = b })) c
          ∙ ap₂ (λ (Z : ModelRecord) v. Ok (record { model = Z; pairs = w.pairs + v.pairs; clean = w.clean && v.clean })) (sym (same-value came.2)) gathers
          ∙ ap (λ r. recorded_worked (and_then r (λ R. Ok (worked R (w.pairs + U.pairs) (w.clean && U.clean))))) (sym u) ∙ ap joined (sym came.1) ∙ made_then
