use Rattle.std.proofs.Common.{ap, ◌∙◌, rules}
use Rattle.std.specs.Str.Iter.{split_text, split_has_more, split_pattern}
use Rattle.batch.proofs.Wording.{begun, kept}
use Rattle.batch.proofs.words.words_of.Goals as goal

pub loop-piece-init : goal.loop-piece-init
loop-piece-init c =
    let same = c.into_iter-piece-iterator.ensures.into_iter_gives in
    let split = c.split-piece-items.ensures in
    begun _ _ _ (ap split_pattern same ∙ split.pattern) (ap split_has_more same ∙ split.has_more) (ap split_text same ∙ split.text ∙ c.before_comment.ensures.value) c.new-found.ensures.items

pub loop-piece-preserved-in-Continue-1 : goal.loop-piece-preserved-in-Continue-1
loop-piece-preserved-in-Continue-1 c =
    kept _ _ _ c.in-Some.piece _ _ c.new.result c.loop-piece.invariant c.in-Some.ensures.steps (search rules) c.new.ensures.value c.new.ensures.reads (search rules)
