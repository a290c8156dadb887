use Rattle.kit_words.proofs.Common.{sym, ◌∙◌}
use Rattle.segment_paths.specs.Common.{IsKnown, crossing}
use Rattle.segment_paths.proofs.round.part.Goals as goal

pub returns-in_ok-push_stop-2 : goal.returns-in_ok-push_stop-2
returns-in_ok-push_stop-2 g c ss paths h one other =
    let known : IsKnown ss c.rounded_crossing-crossing.result =
    crossing one.among other.among (sym c.cross.ensures ∙ c.if-cross.true) c.rounded_crossing-crossing.ensures in
    let first = c.in_ok-others.ensures ss paths (c.in_ok-ends.ensures ss paths h one other) other one in
    c.in_ok-push_stop-2.ensures ss paths (c.in_ok-push_stop.ensures ss paths first one known) other known
