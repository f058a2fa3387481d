-- From the places of a record to the model in it. Assumes nothing.
use Rattle.std.proofs.Common.{◌≡◌, ℕ, not, List, length, take}
use Rattle.interval.specs.declared.marks.Interval.{Interval}
use Rattle.interval.specs.Interval.{is_zero}
use Rattle.table.specs.Slice.{over, Packs}
use Rattle.table.specs.Slice as slice
use Rattle.table.proofs.Packing.{packs-kept}
use Rattle.polynomial.specs.declared.term.Term.{Term}
use Rattle.polynomial.specs.Reach.{zero_term, dropped}
use Rattle.taylor.specs.declared.model.ModelRecord.{ModelRecord}
use Rattle.taylor.specs.Model.{model, packed}

-- forty places, of which the first count hold ts and the others nothing
abbrev pub Places : List Term → ℕ → List Term → Type 0
Places terms count ts = Packs 40 zero_term terms count ts

-- a record of such places
pub record_of : (terms : List Term) (count : ℕ) (ts : List Term) (r : Interval) → Places terms count ts → ◌≡◌ {A = ModelRecord} (record { count = count; terms = terms; remainder = r }) (packed (model ts r))
record_of terms count ts r p = λ i. record { count = p.size i; terms = p.whole i; remainder = r }

-- the places once [0, 0] is dropped
pub swept : (terms : List Term) (count : ℕ) (ts : List Term) → Places terms count ts → (after : List Term) (n : ℕ)
    → n ≡ length (dropped (take count terms)) → after ≡ over (slice.packed count zero_term (dropped (take count terms))) terms → Places after n (dropped ts)
swept terms count ts p after n size is = packs-kept 40 zero_term terms count ts p (λ t. not (is_zero t.coefficient)) after n is size
