use Rattle.kit_words.proofs.Common.{ap, sym, ◌∙◌}
use Rattle.ring_machine.specs.Common.{first_pair}
use Rattle.border_show.proofs.showing.conflict_of.Goals as goal

pub returns-clause-first : goal.returns-clause-first
returns-clause-first c = λ d reads. c.in_ok-first_conflict.ensures ∙ ap first_pair (sym (c.in-Ok.ensures.only d reads))
