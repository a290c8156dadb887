use Rattle.kit_words.proofs.Common.{◌≡◌, take}
use Rattle.ring_parts.specs.Common.{polygons_seen}
use Rattle.layer_sides.specs.Standing.{standing_from}
use Rattle.layer_sides.proofs.standing.all_standing.Given as goal

-- the segments of the polygons so far
abbrev pub invariant-loop-polygon : goal.invariant-loop-polygon
invariant-loop-polygon g l = record {
  number : l.number ≡ l.polygon-index;
  found : l.found.items ≡ standing_from 0 (polygons_seen (take l.polygon-index l.polygons));
}
