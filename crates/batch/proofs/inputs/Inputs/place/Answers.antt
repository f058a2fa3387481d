use Rattle.std.proofs.Common.{◌∙◌, vec_items, rules}
use Rattle.std.proofs.lemmas.Iterator.{YieldsList-from_slice}
use Rattle.std.proofs.lemmas.Iterator.Adapters.{position_from-zero}
use Rattle.std.proofs.lemmas.Iterator.Search.{position_from_yields_List}
use borrow.Author.Tests.{tests}
use Rattle.batch.proofs.Places.{is_named, place_found}
use Rattle.batch.proofs.inputs.Inputs.place.Goals as goal

pub returns-clause-value : goal.returns-clause-value
returns-clause-value c =
    let inputs = vec_items c.args.self.now.all in
    let name = c.args.name.now in
    position_from_yields_List (is_named name) _ _ _ c.position.ensures.ran (YieldsList-from_slice inputs (search rules)) (λ x b q k. search (rules, tests))
    ∙ position_from-zero (is_named name) inputs ∙ place_found name 0 inputs
