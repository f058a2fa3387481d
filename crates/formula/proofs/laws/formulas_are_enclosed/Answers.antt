use Rattle.formula.proofs.Enclosing.{formulas_enclosed}
use Rattle.formula.proofs.laws.formulas_are_enclosed.Goals as goal

pub returns : goal.returns
returns c = record { laws = formulas_enclosed }
