use Rattle.kit_words.proofs.Common.{◌≡◌, ◌+◌, ◌-◌, ◌++◌, drop, into_iter_items, map, take}
use Rattle.ring_parts.specs.Common.{polygons_seen}
use Rattle.topo_reader.specs.Common.{feature_positions}
use Rattle.cover_report.specs.Layers.{numbers_in, owners_from, polygons_in}
use Rattle.cover_report.proofs.layers.next_polygons.Given as goal

-- with those of the features that are still to come they are all
abbrev pub invariant-loop-number : goal.invariant-loop-number
invariant-loop-number g l = record {
  polygons : polygons_seen l.owned.polygons.items
      ++ polygons_in (map feature_positions (take (l.first + l.count - l.number) (into_iter_items l.rest)))
      ≡ polygons_in (map feature_positions (take l.count (into_iter_items l.fn.rest)));
  owners : l.owned.owners.items ++ owners_from l.number (map feature_positions (take (l.first + l.count - l.number) (into_iter_items l.rest)))
      ≡ owners_from l.first (map feature_positions (take l.count (into_iter_items l.fn.rest)));
  numbers : l.owned.numbers.items ++ numbers_in (map feature_positions (take (l.first + l.count - l.number) (into_iter_items l.rest)))
      ≡ numbers_in (map feature_positions (take l.count (into_iter_items l.fn.rest)));
  rest : drop (l.first + l.count - l.number) (into_iter_items l.rest) ≡ drop l.count (into_iter_items l.fn.rest);
}
