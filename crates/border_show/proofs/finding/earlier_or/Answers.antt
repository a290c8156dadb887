use Rattle.kit_words.proofs.Common.{sym, ◌∙◌}
use Rattle.border_show.proofs.FoundLemmas.{found_before, none_before}
use Rattle.border_show.proofs.finding.earlier_or.Goals as goal

pub returns-then-is_empty : goal.returns-then-is_empty
returns-then-is_empty c = none_before c.args.found.now c.args.other (sym c.is_empty.ensures ∙ c.if-is_empty.true)

pub returns-else-is_empty : goal.returns-else-is_empty
returns-else-is_empty c = found_before c.args.found.now c.earlier_feature.result c.earlier_feature.ensures
