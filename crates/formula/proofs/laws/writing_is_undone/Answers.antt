use Rattle.formula.proofs.Texts.{reads_back}
use Rattle.formula.proofs.laws.writing_is_undone.Goals as goal

pub returns : goal.returns
returns c = record { laws = reads_back }
