use Rattle.kit_words.proofs.Common.{◌≡◌, map, take}
use Rattle.ring_machine.specs.Common.{feature_at}
use Rattle.ring_parts.specs.Common.{polygons_seen}
use Rattle.feature_exchange.specs.Common.{stored, stored_document}
use Rattle.feature_exchange.proofs.reading.read_features.Given as goal

-- the polygons of the features so far
abbrev pub invariant-loop-change : goal.invariant-loop-change
invariant-loop-change g l =
    map (λ p. polygons_seen p.items) l.found.items
    ≡ map (λ c. (feature_at (stored_document (stored l.frame l.tables.borders l.tables.vertices)) c.number).polygons) (take l.change-index l.changes)
