use Rattle.interval.proofs.Encloses.{splits_select}
use Rattle.interval.proofs.laws.splits_select.Goals as goal

pub returns : goal.returns
returns c = record { laws = splits_select }
