-- One pair more in a tally: kept or cut, its ends stay in bounds. Assumes nothing.
use Rattle.std.proofs.Common.{◌≡◌, ℕ, ◌+◌, ◌-◌, ◌*◌, ◌^◌, ◌<◌, ◌≤◌, Bool, true, false, cond, length, ◌≤ℤ◌, OnOk, OnErr, Ok, Err, Result, sym, refl, subst, arith}
use Rattle.std.proofs.Math.Logic.{∥∥₁_elim}
use Rattle.std.proofs.Props.{props}
use Rattle.std.proofs.ByRecursion.{All-weaker}
use Rattle.interval.specs.declared.marks.Interval.{Interval}
use Rattle.interval.specs.declared.reason.Reason.{Reason}
use Rattle.interval.specs.Interval.{limit, Sized, Fits, fits, zero_interval}
use Rattle.interval.specs.Kind.{KindMeaning, twice_limit}
use Rattle.interval.proofs.Sizes.{sized_zero, sized_weaken, fits-sized}
use Rattle.table.specs.Monomial.{degree}
use Rattle.polynomial.specs.declared.term.Term.{Term}
use Rattle.taylor.specs.declared.model.ModelRecord.{ModelRecord}
use Rattle.taylor.specs.Model.{unpacked}
use Rattle.taylor.specs.Form.{greatest_order, InPlaces, Tallied, DraftTerm, Gathering}
use Rattle.taylor.specs.Product.{keep, cut}
use Rattle.taylor.specs.Gathering.{held_hull, held, Open}
use Rattle.taylor.proofs.Drafts.{draft_more, keep-one, cut-one}
use Rattle.taylor.proofs.Operands.{ascending-one}

pub held_fits : (i : Interval) → i.lower ≤ℤ i.upper → Fits (held_hull i)
held_fits i o = go (fits i) refl
  where
    go : (b : Bool) → fits i ≡ b → Fits (cond b i zero_interval)
    go true q = fits-sized o q
    go false q = sized_zero limit

-- ---- what a tally's record keeps has one proof
tallied-one : (n : ℕ) (M : ModelRecord) → IsProp (Tallied n M)
tallied-one n M = Prim.hlevel (props, ascending-one)

pub tallied_kept : {n : ℕ} {M : ModelRecord} → ∥ Tallied n M ∥₁ → Tallied n M
tallied_kept {n} {M} h = ∥∥₁_elim h (tallied-one n M) (λ a. a)

module _ {n : ℕ} {M : ModelRecord} (T : Tallied n M) where
  pub tallied_open : Open M
  tallied_open =
      let few = T.few in
      let B = T.bounds in
      record {
        packs = T.packs;
        sized = record {
          coefficients = All-weaker (DraftTerm greatest_order (n * limit)) (λ t. Sized (2 ^ 62 - 1) t.coefficient) (λ t d. sized_weaken (omega arith) d.sized) (unpacked M).terms B.draft.each;
          remainder = sized_weaken (omega arith) B.remainder;
        };
      }

  -- one pair more
  tallied-more : n < 1600 → (N : ModelRecord) → InPlaces N → Gathering greatest_order (n * limit + limit) (n * twice_limit + twice_limit) (unpacked N) → Tallied (n + 1) N
  tallied-more few N p G = record {
    packs = p;
    few = omega arith;
    bounds = record { draft = draft_more ((n + 1) * limit) (omega arith) G.draft; remainder = sized_weaken (omega arith) G.remainder };
  }

  module _ (few : n < 1600) (k : KindMeaning) (h : Term) (f : Fits h.coefficient) where
    -- kept, or refused with the model as it was
    pub tallied_keep : {order : ℕ} (N : ModelRecord) (r : Result Unit Reason) → order ≤ greatest_order → degree h.monomial ≤ order → length h.monomial ≡ 6
        → OnOk r (unpacked N ≡ keep k (unpacked M) h) → OnOk r (InPlaces N) → OnErr r (N ≡ M) → Tallied (n + 1) N
    tallied_keep N (Ok x) top low six after packs same =
        tallied-more few N packs (subst (Gathering greatest_order (n * limit + limit) (n * twice_limit + twice_limit)) (sym after) (keep-one k (unpacked M) h f T.bounds six (omega (arith, top, low))))
    tallied_keep N (Err e) top low six after packs same = subst (Tallied (n + 1)) (sym same)
        (tallied-more few M T.packs (record { draft = draft_more (n * limit + limit) (omega arith) T.bounds.draft; remainder = sized_weaken (omega arith) T.bounds.remainder }))

    pub tallied_cut : (N : ModelRecord) → N ≡ record { count = M.count; terms = M.terms; remainder = (cut (unpacked M) h).remainder } → Tallied (n + 1) N
    tallied_cut N e = subst (Tallied (n + 1)) (sym e) (tallied-more few _ T.packs (cut-one k (unpacked M) h f T.bounds))

-- a pair as it is held
pub hold_fits : {t h : Term} → t.coefficient.lower ≤ℤ t.coefficient.upper → h ≡ held t → Fits h.coefficient
hold_fits {t} ends is = rw is (held_fits t.coefficient ends)
