use Rattle.std.proofs.Common.{◌∙◌}
use Rattle.batch.proofs.Numerals.{reads_whole}
use Rattle.batch.proofs.statement.whole_number.Goals as goal

pub returns : goal.returns
returns c = record { value = c.ok.ensures.value ∙ reads_whole c.args.text.now c.parse.result c.parse.ensures.value.0 }
