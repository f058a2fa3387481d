-- Polynomials as their terms come in. Assumes nothing.
use Rattle.std.specs.Prelude.{Bool, true, cond, ◌&&◌, List, [], ◌∷◌, length, Ok, Err, Result, ◌==◌, int_le, nat_le}
use Rattle.std.specs.Ordering.{is_lt}
use Rattle.interval.specs.declared.reason.Reason.{Reason}
use Rattle.interval.specs.declared.reason.Reason.TheVariants.{TooManyMonomials, DoesNotFit}
use Rattle.interval.specs.Interval.{fits}
use Rattle.polynomial.specs.declared.term.Term.{Term}
pub use Rattle.polynomial.specs.Reach.{with_term, zero_term}
pub use Rattle.polynomial.specs.Terms.{all_fit, new_count}
use Rattle.table.specs.Order.{rank_monomials}

-- six exponents, and a coefficient that fits, which may be [0, 0]
abbrev pub fitting : Term → Bool
fitting t = length t.monomial == 6 && (int_le t.coefficient.lower t.coefficient.upper && fits t.coefficient)

abbrev pub before : Term → List Term → Bool
before t [] = true
before t (u ∷ us) = is_lt (rank_monomials t.monomial u.monomial)

-- the terms ascend, and each is fitting
abbrev pub canonical : List Term → Bool
canonical [] = true
canonical (t ∷ ts) = (fitting t && before t ts) && canonical ts

-- whether a term may come: at most 40 monomials, and every coefficient fits
unfoldable pub admitted : List Term → Term → Result Unit Reason
admitted ts t =
    let next = with_term ts t in
    cond (nat_le (length next) 40) (cond (all_fit next) (Ok tt) (Err DoesNotFit)) (Err TooManyMonomials)
