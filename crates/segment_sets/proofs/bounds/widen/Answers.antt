use Rattle.kit_words.proofs.Common.{sym, ◌∙◌}
use Rattle.segment_sets.proofs.Branches.{around-within}
use Rattle.segment_sets.proofs.bounds.widen.Goals as goal

pub returns-else-not-holds : goal.returns-else-not-holds
returns-else-not-holds c = sym (around-within c.args.bounds.now c.args.rect (sym c.holds.ensures ∙ c.if-not-holds.false))
