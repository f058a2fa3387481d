-- Each way out of striking a line. Assumes nothing.
use Rattle.std.proofs.Common.{◌≡◌, ℕ, ◌-◌, ◌<◌, true, false, length, get_or, Ok, Err, sym, ap, ◌∙◌, arith}
use Rattle.std.proofs.lemmas.Bool.{lt-ltb, le-ltb, eq-eqb, ne_eqb}
use Rattle.interval.specs.declared.reason.Reason.TheVariants.{OfficeOutOfRange, NoLineToStrike, PostedByAnother}
use Rattle.interval.specs.declared.refusal.Refusal.{Refusal}
use Rattle.taylor.proofs.Results.{require_yes}
use Rattle.sheet.specs.declared.line.LineRecord.{LineRecord}
use Rattle.sheet.specs.declared.record.SheetRecord.TheInside.{Inside}
use Rattle.sheet.specs.State.{State, line_at, refusal, known_office, outcome, settled}
use Rattle.sheet.specs.Striking.{without_newest, struck, strike}
use Rattle.sheet.specs.Records.{state_of, struck_record}
use Rattle.sheet.specs.Shape.{Shape}
use Rattle.sheet.proofs.Requires.{require_no}
use Rattle.sheet.proofs.Lines.{lines-count, line-there, struck-lines, struck_shape}

-- ---- over what a sheet is
module _ (s : State) (office : ℕ) where
  unknown : known_office office ≡ false → struck s office ≡ Err (refusal OfficeOutOfRange 0 0)
  unfolding struck
  unknown k = require_no _ _ _ k

  module _ (k : known_office office ≡ true) where
    empty : length s.lines ≡ 0 → struck s office ≡ Err (refusal NoLineToStrike 0 0)
    unfolding struck
    empty e = require_yes _ _ _ k ∙ require_no _ _ _ (le-ltb 0 (length s.lines) (omega arith))

    module _ (h : 0 < length s.lines) where
      another : ((line_at s (length s.lines - 1)).office ≡ office → ⊥) → struck s office ≡ Err (refusal PostedByAnother (length s.lines - 1) 0)
      unfolding struck
      another ne = require_yes _ _ _ k ∙ require_yes _ _ _ (lt-ltb 0 (length s.lines) h) ∙ require_no _ _ _ (ne_eqb _ office ne)

      own : (line_at s (length s.lines - 1)).office ≡ office → struck s office ≡ Ok (without_newest s, tt)
      unfolding struck
      own e = require_yes _ _ _ k ∙ require_yes _ _ _ (lt-ltb 0 (length s.lines) h) ∙ require_yes _ _ _ (eq-eqb _ office e)

  refuses : (e f : Refusal) → e ≡ f → struck s office ≡ Err f → outcome s (Err e) ≡ strike s office
  refuses e f is q = ap (settled s) (ap Err is ∙ sym q)

  pub strikes_unknown : (e : Refusal) → e ≡ refusal OfficeOutOfRange 0 0 → false ≡ known_office office → outcome s (Err e) ≡ strike s office
  strikes_unknown e is k = refuses e _ is (unknown (sym k))

-- ---- over a record
module _ (s : Inside) (shape : Shape s) where
  count : length (state_of s).lines ≡ s.standing
  count = lines-count s.standing s.lines shape.lines

  -- the newest line's office
  newest : (d : LineRecord) → 0 < s.standing → (line_at (state_of s) (length (state_of s).lines - 1)).office ≡ (get_or s.lines (s.standing - 1) d).office
  newest d h = rw count (ap (λ l. l.office) (line-there s.standing s.lines shape.lines (s.standing - 1) d _ (omega arith)))

  pub strikes_shape : (s.standing ≡ 0 → ⊥) → Shape (struck_record s)
  strikes_shape some = record {
    order = shape.order;
    allowance = shape.allowance;
    box = shape.box;
    lines = struck_shape s.standing s.lines shape.lines (omega arith);
    accounts = shape.accounts;
  }

  module _ (office : ℕ) where
    module _ (k : true ≡ known_office office) where
      pub strikes_none : (e : Refusal) → e ≡ refusal NoLineToStrike 0 0 → s.standing ≡ 0 → outcome (state_of s) (Err e) ≡ strike (state_of s) office
      strikes_none e is z = refuses (state_of s) office e _ is (empty (state_of s) office (sym k) (count ∙ z))

      module _ (some : s.standing ≡ 0 → ⊥) (d : LineRecord) where
        pub strikes_another : (e : Refusal) → e ≡ refusal PostedByAnother (s.standing - 1) 0 → ((get_or s.lines (s.standing - 1) d).office ≡ office → ⊥) → outcome (state_of s) (Err e) ≡ strike (state_of s) office
        strikes_another e is ne =
            let h : 0 < s.standing = omega arith in
            let same = ap (λ n. refusal PostedByAnother (n - 1) 0) (sym count) in
            refuses (state_of s) office e _ (is ∙ same) (another (state_of s) office (sym k) (rw count h) (λ q. ne (sym (newest d h) ∙ q)))

        pub strikes_own : (get_or s.lines (s.standing - 1) d).office ≡ office → outcome (state_of (struck_record s)) (Ok tt) ≡ strike (state_of s) office
        strikes_own q =
            let h : 0 < s.standing = omega arith in
            ap (λ ls. outcome (record { order = s.order; box = (state_of s).box; allowance = s.allowance; lines = ls; accounts = (state_of s).accounts }) (Ok tt)) (struck-lines s.standing s.lines shape.lines h)
            ∙ ap (settled (state_of s)) (sym (own (state_of s) office (sym k) (rw count h) (newest d h ∙ q)))
