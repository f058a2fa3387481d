-- The coefficient at a monomial by one search: the one at the place found, or [0, 0]; and how many coefficients are not [0, 0].
-- Assumes nothing.
use Rattle.std.proofs.Common.{◌≡◌, ℕ, ◌<◌, ◌≤◌, not, Ok, Err, Result, List, [], length, get_or, sym, ap, ◌∙◌, arith}
use Rattle.std.proofs.ByRecursion.{All-weaker}
use Rattle.std.proofs.lemmas.List.{get_or_default}
use Rattle.std.proofs.lemmas.List.Sums.{length-filter, count_by-le-length}
use Rattle.std.proofs.lemmas.Bool.{cond-true, cond-false}
use Rattle.interval.specs.Interval.{limit, zero_interval, is_zero, Fits}
use Rattle.interval.proofs.Sizes.{sized_zero}
use Rattle.table.specs.Monomial.{Monomial}
use Rattle.table.specs.Order.{by_degree}
use Rattle.table.specs.Table.{sought}
use Rattle.table.proofs.Readings.{reads}
use Rattle.table.proofs.Searches.{there, missing}
use Rattle.polynomial.specs.declared.term.Term.{Term}
use Rattle.polynomial.specs.Reach.{term, coefficient_at, dropped}
use Rattle.polynomial.specs.Method.{FitTerm, Polynomial}
use Rattle.polynomial.proofs.Standing.{entry_all}

-- what is read past the end of a slice of terms
abbrev pub unread : Term
unread = term [] zero_interval

module _ (ts : List Term) (m : Monomial) where
  pub coefficient_there : (i : ℕ) → ◌≡◌ {A = Result ℕ ℕ} (Ok i) (sought by_degree (λ t. t.monomial) ts m) → i < length ts → (get_or ts i unread).coefficient ≡ coefficient_at ts m
  coefficient_there i e l =
      let h = there by_degree (λ t. t.monomial) ts m i e in
      ap (λ t. t.coefficient) (get_or_default ts i unread (term m zero_interval) l ∙ ap (λ k. get_or ts k (term m zero_interval)) h.0
      ∙ sym (reads by_degree (λ t. t.monomial) (term m zero_interval) ts m ∙ cond-true _ _ _ h.1))

  pub coefficient_missing : (i : ℕ) → ◌≡◌ {A = Result ℕ ℕ} (Err i) (sought by_degree (λ t. t.monomial) ts m) → zero_interval ≡ coefficient_at ts m
  coefficient_missing i e =
      ap (λ t. t.coefficient) (sym (reads by_degree (λ t. t.monomial) (term m zero_interval) ts m ∙ cond-false _ _ _ (missing by_degree (λ t. t.monomial) ts m i e)))

  pub coefficient-fits : Polynomial ts → Fits (coefficient_at ts m)
  coefficient-fits p = entry_all by_degree (λ t. t.monomial) (λ t. Fits t.coefficient) (term m zero_interval) ts m
      (sized_zero limit)
      (All-weaker FitTerm (λ t. Fits t.coefficient) (λ t f. f.fit) ts p.fit)

-- no terms come when [0, 0] is dropped
pub dropped-length : (ts : List Term) → length (dropped ts) ≤ length ts
dropped-length ts =
    let some = λ (t : Term). not (is_zero t.coefficient) in
    omega (arith, length-filter some ts, count_by-le-length some ts)
