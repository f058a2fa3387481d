use Rattle.std.proofs.Common.{sym, subst}
use Rattle.polynomial.specs.Method.{Ranges}
use Rattle.polynomial.proofs.PlainLaws.{plain_lawful}
use Rattle.ranging.proofs.Adding.{fit_addable}
use Rattle.ranging.proofs.plain.PlainRanging.range.Goals as goal

pub plain_range-requires : goal.plain_range-requires
plain_range-requires c = fit_addable c.args.polynomial.sound

pub returns-clause-laws : goal.returns-clause-laws
returns-clause-laws c = let p = c.args.polynomial in subst (Ranges p.terms.now) (sym c.plain_range.ensures.value) (plain_lawful p.terms.now p.sound)
