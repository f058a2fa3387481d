-- What one pair leaves in the record of the model that is gathered. Assumes nothing.
use Rattle.std.proofs.Common.{◌≡◌, ℕ, ◌-◌, ◌^◌, ◌≤◌, List, length, take, Some, sym, subst, lit≤}
use Rattle.std.specs.List.{AllByRecursion}
use Rattle.std.proofs.ByRecursion.{All-weaker}
use Rattle.interval.specs.declared.marks.Interval.{Interval}
use Rattle.interval.specs.Interval.{Sized, Fits, Summable}
use Rattle.interval.proofs.Sizes.{sized_weaken}
use Rattle.table.specs.Monomial.{Monomial}
use Rattle.table.specs.Slice.{over}
use Rattle.table.proofs.Packing.{packs_front}
use Rattle.polynomial.specs.declared.term.Term.{Term}
use Rattle.polynomial.specs.Reach.{zero_term, reach, with_term}
use Rattle.polynomial.specs.Terms.{new_count}
use Rattle.taylor.specs.declared.model.ModelRecord.{ModelRecord}
use Rattle.taylor.specs.Model.{unpacked}
use Rattle.taylor.specs.Form.{InPlaces}
use Rattle.taylor.specs.Gathering.{Open}
use Rattle.polynomial.proofs.Reaches.{sized-reach}
use Rattle.taylor.proofs.Packed.{Places}
use Rattle.taylor.proofs.Summing.{term-entered}

-- the terms of a packed record
pub packed_here : (N : ModelRecord) (ts : List Term) → Places N.terms N.count ts → InPlaces N
packed_here N ts p = rw (packs_front 40 zero_term N.terms N.count ts p) p

module _ (M : ModelRecord) (o : Open M) where
  pub open_joins : (i : Interval) → Fits i → AllByRecursion (λ u. Summable u.coefficient × Summable i) (take M.count M.terms)
  open_joins i f = All-weaker (λ u. Summable u.coefficient) (λ u. Summable u.coefficient × Summable i) (λ u s. (s, sized_weaken (lit≤ tt) f)) (take M.count M.terms) o.sized.coefficients

  -- a reach that joins the remainder
  pub open_remainder : (n : ℕ) → n ≤ 2 ^ 62 - 1 → (m : Monomial) (i r : Interval) → Sized n i → r ≡ reach m i → Summable M.remainder × Summable r
  open_remainder n h m i r s e = (o.sized.remainder, subst Summable (sym e) (sized-reach m (sized_weaken h s)))

  -- the places once t is entered
  pub entered_places : (t : Term) (N : ModelRecord) → Some N.count ≡ new_count (length M.terms) (with_term (take M.count M.terms) t) → N.terms ≡ over (with_term (take M.count M.terms) t) M.terms → InPlaces N
  entered_places t N count terms =
      packed_here N _ (term-entered M.terms M.count (unpacked M).terms o.packs t N.terms N.count count terms)
