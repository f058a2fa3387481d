use Rattle.std.proofs.Common.{rules}
use Rattle.std.proofs.lemmas.List.Sorted.{answers_always}
use Rattle.table.specs.Order.{by_degree}
use Rattle.polynomial.specs.declared.term.Term.{Term}
use Rattle.vectors.proofs.Ascents.{is_below, decided}
use Rattle.vectors.proofs.operands.ascend.Goals as goal

pub returns : goal.returns
returns c =
    let key = λ (t : Term). t.monomial in
    record { value = decided by_degree key c.args.terms.now _ (c.is_sorted_by.ensures.cases (is_below by_degree key) (answers_always _ _ _ (λ f a r g h. search rules))) }
