-- Without its terms of [0, 0] a canonical list is a polynomial whose coefficients fit.
use Rattle.std.proofs.Common.{◌≡◌, ℕ, ◌-◌, ◌≤◌, true, not, List, ◌++◌, length, take, drop, replicate, ap, ◌∙◌, append_assoc, arith, length-append, length-drop, length-take, rules}
use lib.ListN.{length-replicate}
use lib.Seq.{take-append_seam}
use Rattle.std.proofs.ByRecursion.{all_kept_by, kept_by_passes}
use Rattle.interval.specs.Interval.{is_zero}
use Rattle.polynomial.specs.declared.term.Term.{Term}
use Rattle.polynomial.specs.Method.{FitTerm, Polynomial}
use Rattle.polynomial.specs.Reach.{dropped, zero_term}
use Rattle.polynomial.proofs.Coefficients.{dropped-length}
use Rattle.polynomial.proofs.Standing.{all_both}
use Rattle.table.specs.Order.{by_degree}
use Rattle.table.specs.Slice.{over, packed}
use Rattle.table.proofs.Ascents.{drops_ascend}
use Rattle.batch.specs.Drafts.{canonical}
use Rattle.batch.proofs.Canonical.{Fitting, ascends, fitted, canonical_from}
use Rattle.batch.proofs.Fronts.{Front}

pub dropped_front : (old new : List Term) (count n : ℕ) → length old ≡ 40 → count ≤ 40 → n ≡ length (dropped (take count old)) → new ≡ over (packed count zero_term (dropped (take count old))) old → Front (dropped (take count old)) new n
dropped_front old new count n long few size after =
    let kept = dropped (take count old) in
    let blank = replicate (count - length kept) zero_term in
    let less : length kept ≤ count = omega (arith, dropped-length (take count old), length-take count old) in
    let used : length (kept ++ blank) ≡ count = length-append kept blank ∙ omega (arith, less, length-replicate (count - length kept) zero_term) in
    record {
      few = omega (arith, less, size);
      long = ap length after ∙ length-append (kept ++ blank) (drop (length (kept ++ blank)) old) ∙ omega (arith, used, length-drop (length (kept ++ blank)) old);
      front = rw (after, size) (ap (take (length kept)) (append_assoc kept blank (drop (length (kept ++ blank)) old)) ∙ take-append_seam kept (blank ++ drop (length (kept ++ blank)) old));
    }

pub dropped-canonical : (ts : List Term) → canonical ts ≡ true → canonical (dropped ts) ≡ true
dropped-canonical ts c = canonical_from (dropped ts) (drops_ascend by_degree (λ t. t.monomial) _ ts (ascends ts c)) (all_kept_by _ Fitting ts (fitted ts c))

pub dropped_polynomial : (ts : List Term) → length (dropped ts) ≤ 40 → canonical ts ≡ true → Polynomial (dropped ts)
dropped_polynomial ts few c = record {
  few = few;
  ascends = drops_ascend by_degree (λ t. t.monomial) _ ts (ascends ts c);
  fit = all_both Fitting (λ t. not (is_zero t.coefficient) ≡ true) FitTerm (λ t f s. record { six = f.six; fit = f.fit; some = search rules }) (dropped ts)
      (all_kept_by _ Fitting ts (fitted ts c)) (kept_by_passes _ ts);
}
