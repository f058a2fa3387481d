-- The reach of an interval under a monomial, and tables of terms. Assumes nothing.
use Rattle.std.specs.Prelude.{cond, not, List, fold, filter, ◌==◌}
use Rattle.interval.specs.declared.marks.Interval.{Interval}
use Rattle.interval.specs.Interval.{zero_interval, is_zero, even_reach, full_reach, plus}
use Rattle.polynomial.specs.declared.term.Term.{Term}
use Rattle.table.specs.Monomial.{Monomial, constant_monomial, degree, even}
use Rattle.table.specs.Order.{by_degree}
use Rattle.table.specs.Table.{entry, entered}

abbrev pub term : Monomial → Interval → Term
term m c = record { monomial = m; coefficient = c }

-- what fills the unused places of a table
abbrev pub zero_term : Term
zero_term = term constant_monomial zero_interval

-- the reach of an interval under a monomial
abbrev pub reach : Monomial → Interval → Interval
reach m i = cond (degree m == 0) i (cond (even m) (even_reach i) (full_reach i))

-- a coefficient joins the one of its monomial
abbrev pub joined : Term → Term → Term
joined t u = term t.monomial (plus t.coefficient u.coefficient)

-- a term joins the one of its monomial, or takes its place; and one after the other
abbrev pub with_term : List Term → Term → List Term
with_term ts t = entered by_degree (λ u. u.monomial) joined ts t

abbrev pub joins : List Term → List Term → List Term
joins ts us = fold (entered by_degree (λ t. t.monomial) joined) ts us

-- the coefficient at a monomial, [0, 0] where there is none
abbrev pub coefficient_at : List Term → Monomial → Interval
coefficient_at ts m = (entry by_degree (λ t. t.monomial) (term m zero_interval) ts m).coefficient

-- coefficients of [0, 0] are dropped
abbrev pub dropped : List Term → List Term
dropped ts = filter (λ t. not (is_zero t.coefficient)) ts
