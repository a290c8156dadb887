use Rattle.kit_words.proofs.Common.{◌≡◌, ◌++◌, into_iter_items}
use Rattle.ring_parts.specs.Common.{rings_seen}
use Rattle.map_opening.specs.Common.{rings_of_features, shape_of, lists_seen, features_seen}
use Rattle.map_opening.proofs.flat.flattened.Given as goal

-- with those of the features that are left they are all
abbrev pub invariant-loop-polygons : goal.invariant-loop-polygons
invariant-loop-polygons g l = record {
  rings : rings_seen l.rings.items ++ rings_of_features (features_seen (into_iter_items l.polygons-iterator))
      ≡ rings_of_features (features_seen (into_iter_items l.initial.polygons-iterator));
  shape : lists_seen l.shape.items ++ shape_of (features_seen (into_iter_items l.polygons-iterator))
      ≡ shape_of (features_seen (into_iter_items l.initial.polygons-iterator));
}
