use Rattle.std.proofs.Common.{Some, None, sym, ap, ◌∙◌, arith}
use Rattle.std.proofs.lemmas.Str.Pattern.{split_parts}
use Rattle.batch.specs.Words.{uncommented}
use Rattle.batch.proofs.Cuts.{uncommented_none, uncommented-at}
use Rattle.batch.proofs.words.before_comment.Goals as goal

pub returns-in-Some : goal.returns-in-Some
returns-in-Some c =
    let before = c.in-Some.before in
    let after = c.in-Some.field-0-1 in
    let parts = split_parts 35 c.args.line.now (Some (before, after)) c.in-Some.ensures.cases (omega arith) in
    record { value = sym (ap uncommented parts.0 ∙ uncommented-at before.now after.now parts.1) }

pub returns-in-None : goal.returns-in-None
returns-in-None c =
    let line = c.args.line.now in
    record { value = sym (uncommented_none line (split_parts 35 line None c.in-None.ensures.cases (omega arith))) }
