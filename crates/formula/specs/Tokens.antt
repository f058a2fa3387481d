-- The tokens that are left of a text. Assumes nothing.
use Rattle.std.specs.Prelude.{List}
use Rattle.formula.specs.declared.token.Token.{Token}
use Rattle.formula.specs.declared.tokens.Tokens.{Tokens}
use Rattle.formula.specs.Token.{items_at, read_tokens}

-- from the place on, up to the first that cannot be read
abbrev pub tokens_left : Tokens → List Token
tokens_left s = read_tokens (items_at s.text.now s.at)
