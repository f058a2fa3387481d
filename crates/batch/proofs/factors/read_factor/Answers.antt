use Rattle.std.proofs.Common.{Some, None, ◌∙◌, arith}
use Rattle.std.proofs.lemmas.Str.Pattern.{split_parts}
use Rattle.batch.proofs.Exits.{ends, goes_on}
use Rattle.batch.proofs.Factoring.{factor_plain, factor_raised}
use Rattle.batch.proofs.factors.read_factor.Goals as goal

pub returns-in_err-power-in-Some : goal.returns-in_err-power-in-Some
returns-in_err-power-in-Some c =
    let parts = split_parts 94 c.args.word.now (Some (c.in-Some.name, c.in-Some.exponent)) c.in-Some.ensures.cases (omega arith) in
    record { value = ends _ c.from_residual.result c.in_err-power-in-Some.field-0.0 _ _ c.from_residual.ensures.1 c.in_err-power-in-Some.ensures.value ∙ factor_raised _ _ _ _ parts.0 parts.1 }

pub returns-in_ok-power-in-Some : goal.returns-in_ok-power-in-Some
returns-in_ok-power-in-Some c =
    let parts = split_parts 94 c.args.word.now (Some (c.in-Some.name, c.in-Some.exponent)) c.in-Some.ensures.cases (omega arith) in
    record { value = c.place.ensures.value ∙ goes_on _ _ _ c.in_ok-power-in-Some.ensures.value ∙ factor_raised _ _ _ _ parts.0 parts.1 }

pub returns-in-None : goal.returns-in-None
returns-in-None c =
    let word = c.args.word.now in
    record { value = c.place-in-None.ensures.value ∙ factor_plain _ word (split_parts 94 word None c.in-None.ensures.cases (omega arith)) }
