use Rattle.kit_words.proofs.Common.{◌≡◌, map, take}
use Rattle.feature_exchange.specs.Common.{is_meeting}
use Rattle.feature_exchange.proofs.marked_ring.meetings.Given as goal

abbrev pub invariant-loop-each : goal.invariant-loop-each
invariant-loop-each g l = l.meetings.items ≡ map is_meeting (take l.each-index l.around)
