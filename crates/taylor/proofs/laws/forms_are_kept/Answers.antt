use Rattle.taylor.proofs.Keeps.{forms_kept, tables_kept}
use Rattle.taylor.proofs.laws.forms_are_kept.Goals as goal

pub returns : goal.returns
returns c = record { laws = (forms_kept, tables_kept) }
