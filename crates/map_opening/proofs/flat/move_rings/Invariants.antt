use Rattle.kit_words.proofs.Common.{◌≡◌, ◌++◌, map, length, into_iter_items}
use Rattle.ring_parts.specs.Common.{rings_seen, polygons_seen}
use Rattle.map_opening.specs.Common.{in_lists}
use Rattle.map_opening.proofs.flat.move_rings.Given as goal

-- with those of the polygons that are left they are all
abbrev pub invariant-loop-polygon : goal.invariant-loop-polygon
invariant-loop-polygon g l = record {
  rings : rings_seen l.rings.items ++ in_lists (polygons_seen (into_iter_items l.polygon-iterator))
      ≡ rings_seen l.fn.rings.items ++ in_lists (polygons_seen (into_iter_items l.initial.polygon-iterator));
  counts : l.counts.items ++ map length (polygons_seen (into_iter_items l.polygon-iterator))
      ≡ map length (polygons_seen (into_iter_items l.initial.polygon-iterator));
}
