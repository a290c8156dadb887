use Rattle.kit_words.proofs.Common.{take}
use Rattle.place_text.specs.Common.{vertices_of_feature, feature_segments, Tells}
use Rattle.ring_parts.specs.Common.{polygons_seen}
use Rattle.place_text.proofs.tables.tell_feature.Given as goal

-- the polygons so far are reported
abbrev pub invariant-loop-rings : goal.invariant-loop-rings
invariant-loop-rings g l =
    Tells l.feature (vertices_of_feature (polygons_seen (take l.rings-index l.polygons))) (feature_segments (polygons_seen (take l.rings-index l.polygons))) l.fn.tables l.tables
