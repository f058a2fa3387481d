use Rattle.formula.specs.Meaning.{any_uses, all_named, exact_tokens}
use Rattle.formula.proofs.Lines.{line_by_line}
use Rattle.formula.proofs.laws.lines_look_back.Goals as goal

pub returns : goal.returns
returns c = record { laws = (λ v. line_by_line (any_uses v), line_by_line all_named, λ S point. line_by_line (exact_tokens S point)) }
