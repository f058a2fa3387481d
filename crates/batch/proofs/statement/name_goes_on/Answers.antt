use Rattle.std.proofs.Common.{rules}
use Rattle.std.proofs.lemmas.Iterator.{YieldsList-from_slice}
use Rattle.std.proofs.lemmas.Iterator.Search.{all_from_yields_List}
use borrow.Author.Tests.{tests}
use Rattle.batch.specs.Statements.{name_byte}
use Rattle.batch.proofs.statement.name_goes_on.Goals as goal

pub returns : goal.returns
returns c = record { value = all_from_yields_List name_byte _ _ _ c.all.ensures.ran (YieldsList-from_slice c.args.bytes.now cc) (λ x b q k. search (rules, tests)) }
