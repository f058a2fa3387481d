use Rattle.std.proofs.Common.{◌≡◌, [], ◌∷◌, length, ap, arith}
use Rattle.formula.specs.Tokens.{tokens_left}
use Rattle.formula.proofs.TokensLeft.{tokens_read, tokens_refused}
use Rattle.formula.proofs.tokens.TokensIterator.next.Goals as goal

pub returns-in_err-token-clause-steps : goal.returns-in_err-token-clause-steps
returns-in_err-token-clause-steps c =
    let none : tokens_left c.args.self.now ≡ [] =
    tokens_refused c.args.self.now.text.now c.args.self.now.at c.read.result c.read.ensures.value c.in_err-token.ensures.value in
    rw c.from_residual.ensures (none, none)

pub returns-clause-steps : goal.returns-clause-steps
returns-clause-steps c = tokens_read c.args.self.now.text.now c.args.self.now.at c.read.result c.read.ensures.value c.in_ok-token.ensures.value

pub returns-clause-goes : goal.returns-clause-goes
returns-clause-goes c =
    let more : tokens_left c.args.self.now ≡ c.in_ok-token.token ∷ tokens_left (record { text = c.args.self.now.text; at = c.in_ok-token.next }) =
    tokens_read c.args.self.now.text.now c.args.self.now.at c.read.result c.read.ensures.value c.in_ok-token.ensures.value in
    record { on = λ _. (tt, tt, omega (arith, ap length more)); keeps = tt; rests = λ _. tt }
