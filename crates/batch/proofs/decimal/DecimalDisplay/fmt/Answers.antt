use Rattle.std.proofs.Output.{has_written_of_eq}
use Rattle.batch.proofs.Figures.{text-whole, text_parted}
use Rattle.batch.proofs.decimal.DecimalDisplay.fmt.Goals as goal

pub returns-then-self-eq0-clause-writes : goal.returns-then-self-eq0-clause-writes
returns-then-self-eq0-clause-writes g c = λ p o. has_written_of_eq _ _ _ _ _ (text-whole c.args.self.now _ c.sign_text-sign.ensures.value c.if-self-eq0.true) (c.write.ensures.writes p o)

pub returns-clause-writes : goal.returns-clause-writes
returns-clause-writes g c = λ p o. has_written_of_eq _ _ _ _ _ (text_parted c.args.self.now _ c.sign_text-sign.ensures.value c.if-self-eq0.false) (c.write-2.ensures.writes p o)
