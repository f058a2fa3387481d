use Rattle.std.proofs.Common.{◌≡◌, true, false, rules}
use Rattle.std.proofs.lemmas.Iterator.{cases_from_any}
use Rattle.std.proofs.lemmas.Iterator.Consumers.{YieldsList-from_first}
use Rattle.formula.specs.Token.{tokens}
use Rattle.formula.specs.Tokens.{tokens_left}
use Rattle.formula.specs.Meaning.{token_uses}
use Rattle.formula.proofs.TokensLeft.{settled}
use Rattle.formula.proofs.usage.uses.Goals as goal

pub returns : goal.returns
returns c =
    let p = token_uses c.args.variable c.args.below.now in
    record {
      value = settled p (tokens c.args.text.now) c.any.result
          (cases_from_any c.any.new.self _ _ (λ t. p t ≡ true) (λ t. p t ≡ false) c.any.ensures.ran (YieldsList-from_first (λ t. t) tokens_left (tokens c.args.text.now) c.from.ensures)
          (λ x q k. search rules) (λ x q k. search rules));
    }
