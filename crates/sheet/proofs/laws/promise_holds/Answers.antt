use Rattle.sheet.proofs.Promises.{promised}
use Rattle.sheet.proofs.laws.promise_holds.Goals as goal

pub returns : goal.returns
returns c = record { laws = promised }
