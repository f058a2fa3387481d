use Rattle.polynomial.proofs.Coefficients.{coefficient_there, coefficient_missing}
use Rattle.polynomial.proofs.lookup.coefficient_at.Goals as goal

pub returns-in-Ok : goal.returns-in-Ok
returns-in-Ok c = record { value = coefficient_there c.args.terms.now c.args.monomial c.in-Ok.at c.in-Ok.ensures.value c.in-Ok.ensures.there }

pub returns-in-Err : goal.returns-in-Err
returns-in-Err c = record { value = coefficient_missing c.args.terms.now c.args.monomial c.in-Err.field-0 c.in-Err.ensures.value }
