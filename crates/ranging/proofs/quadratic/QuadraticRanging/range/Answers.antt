use Rattle.std.proofs.Common.{sym, subst}
use Rattle.polynomial.specs.Method.{Ranges}
use Rattle.polynomial.proofs.QuadraticLaws.{quadratic_lawful}
use Rattle.ranging.proofs.quadratic.QuadraticRanging.range.Goals as goal

pub returns-clause-laws : goal.returns-clause-laws
returns-clause-laws c = let p = c.args.polynomial in subst (Ranges p.terms.now) (sym c.quadratic_range.ensures.value) (quadratic_lawful p.terms.now p.sound)
