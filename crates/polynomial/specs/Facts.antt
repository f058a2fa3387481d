-- That a list of terms is a polynomial is a fact, with one proof at most. Assumes nothing.
use Rattle.std.specs.Prelude.{List}
use Rattle.std.proofs.Props.{props}
use Rattle.table.specs.Order.{by_degree}
use Rattle.table.specs.Facts.{ascending_once}
use Rattle.polynomial.specs.declared.term.Term.{Term}
use Rattle.polynomial.specs.Method.{Polynomial}

pub polynomial_once : (ts : List Term) → IsProp (Polynomial ts)
polynomial_once ts = hlevel (props, ascending_once by_degree (λ (t : Term). t.monomial))
