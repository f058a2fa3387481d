-- That a list ascends is a fact, with one proof at most. Assumes nothing.
use Rattle.std.specs.Prelude.{List, [], ◌∷◌}
use Rattle.std.proofs.Props.{props}
use Rattle.table.specs.Order.{Order}
use Rattle.table.specs.Table.{Next, Ascending}

module _ {E K : Type 0} (o : Order K) (key : E → K) where
  next_once : (k : K) (es : List E) → IsProp (Next o key k es)
  next_once k [] = hlevel props
  next_once k (y ∷ ys) = hlevel props

  pub ascending_once : (es : List E) → IsProp (Ascending o key es)
  ascending_once [] = hlevel props
  ascending_once (x ∷ xs) = hlevel (next_once (key x) xs, ascending_once xs)
