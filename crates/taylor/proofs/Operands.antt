-- What an operand of a product offers: terms that a method may be asked about, and factors of pairs. Assumes nothing.
use Rattle.std.proofs.Common.{◌≡◌, ℕ, ◌+◌, ◌≤◌, true, List, [], ◌∷◌, length, sym, arith}
use Rattle.std.specs.List.{AllByRecursion}
use Rattle.std.proofs.Math.Logic.{∥∥₁_elim}
use Rattle.std.specs.Coded.{×_prop, Unit-prop}
use Rattle.std.specs.Ordering.{Ordering-set}
use Rattle.std.proofs.Props.{props}
use Rattle.interval.specs.declared.marks.Interval.{Interval}
use Rattle.interval.specs.Interval.{limit, Sized, Fits, fits, plus, times}
use Rattle.interval.specs.Kind.{KindMeaning}
use Rattle.interval.proofs.Sizes.{sized-plus, fits-sized}
use Rattle.table.specs.Monomial.{degree}
use Rattle.table.specs.Order.{by_degree}
use Rattle.table.specs.Table.{Ascending}
use Rattle.table.proofs.Packing.{packs_long}
use Rattle.polynomial.specs.declared.term.Term.{Term}
use Rattle.polynomial.specs.Method.{MethodMeaning, Polynomial}
use Rattle.taylor.specs.declared.model.ModelRecord.{ModelRecord}
use Rattle.taylor.specs.Model.{unpacked}
use Rattle.taylor.specs.Form.{greatest_order}
use Rattle.taylor.specs.Record.{Ready}
use Rattle.taylor.specs.Gathering.{Factor}
use Rattle.taylor.proofs.Sizes.{scale-above, times-order}
use Rattle.polynomial.proofs.Standing.{all_both}
use Rattle.taylor.proofs.Packed.{Places}
use Rattle.taylor.proofs.Tests.{tested_polynomial}

-- the terms in use lie in the record
pub places_room : {terms ts : List Term} {count : ℕ} → Places terms count ts → count ≤ length terms
places_room {terms} {ts} {count} p = omega (arith, packs_long 40 _ terms count ts p, p.size, p.fits)

-- a product of intervals that passes the test
pub product-fits : (k : KindMeaning) {S : ℕ} → S ≡ k.scale → (i j r : Interval) → r ≡ times S i j → true ≡ fits r → Fits r
product-fits k {S} s i j r e t = fits-sized (rw e (times-order S (rw s (scale-above k)) i j)) (sym t)

-- joins what is left over, and can still be added to
pub product-joins : {n : ℕ} {i j r : Interval} → Sized n i → Fits j → r ≡ plus i j → Sized (n + limit) r
product-joins s f e = rw e (sized-plus s f)

-- ---- the facts of an operand have one proof
pub ascending-one : (ts : List Term) → IsProp (Ascending by_degree (λ t. t.monomial) ts)
ascending-one [] = Unit-prop
ascending-one (t ∷ []) = ×_prop Unit-prop Unit-prop
ascending-one (t ∷ (u ∷ ts)) = ×_prop (Ordering-set _ _) (ascending-one (u ∷ ts))

ready-one : (m : MethodMeaning) (r : ModelRecord) → IsProp (Ready m r)
ready-one m r = Prim.hlevel (props, ascending-one)

-- what a product keeps of an operand
pub kept : {m : MethodMeaning} {r : ModelRecord} → ∥ Ready m r ∥₁ → Ready m r
kept {m} {r} h = ∥∥₁_elim h (ready-one m r) (λ a. a)

-- its remainder, times a range or a remainder
pub remainders_times : {m : MethodMeaning} {a b : ModelRecord} → Ready m a → Ready m b → Sized limit a.remainder × Sized limit b.remainder
remainders_times f g = (f.tested.sized.remainder, g.tested.sized.remainder)

pub ranges_times : (m : MethodMeaning) {a b : ModelRecord} → Ready m a → Ready m b → {i : Interval} → i ≡ m.range (unpacked a).terms → Sized limit i × Sized limit b.remainder
ranges_times m f g e = (rw e f.tested.range, g.tested.sized.remainder)

module _ {m : MethodMeaning} {r : ModelRecord} (h : Ready m r) where
  pub ready_polynomial : Polynomial (unpacked r).terms
  ready_polynomial = tested_polynomial m (unpacked r) h.tested

  pub ready_factors : AllByRecursion Factor (unpacked r).terms
  ready_factors = all_both (λ t. Fits t.coefficient) (λ t. degree t.monomial ≤ greatest_order) Factor (λ t a b. record { fit = a; low = b }) (unpacked r).terms h.tested.sized.coefficients h.canonical.degrees
