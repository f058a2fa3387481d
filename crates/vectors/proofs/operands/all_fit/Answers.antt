use Rattle.std.proofs.Common.{rules}
use Rattle.std.proofs.lemmas.Bool.{MatchBool-at_true}
use Rattle.std.proofs.lemmas.Iterator.{YieldsList-from_slice, cases_from_all}
use Rattle.std.proofs.lemmas.Iterator.Search.{true_from_All}
use Rattle.std.proofs.lemmas.List.Elements.{All-from_all_within, All-from_recursion, recursion_from_All}
use borrow.Author.Tests.{tests}
use Rattle.polynomial.specs.declared.term.Term.{Term}
use Rattle.polynomial.specs.Method.{FitTerm}
use Rattle.vectors.proofs.operands.all_fit.Goals as goal

pub returns : goal.returns
returns c =
    let terms = c.args.terms.now in
    let unfit = λ (t : Term). FitTerm t → ⊥ in
    let cases = cases_from_all _ _ c.all.result FitTerm unfit c.all.ensures.ran (YieldsList-from_slice terms cc) (λ x q k. search (rules, tests)) (λ x q k. search (rules, tests)) in
    record { value = (λ e. recursion_from_All FitTerm terms (All-from_all_within FitTerm terms (MatchBool-at_true _ _ e cases)), λ h. true_from_All FitTerm unfit _ terms (λ t p q. q p) cases (All-from_recursion FitTerm terms h)) }
