use Rattle.kit_words.proofs.Common.{◌≡◌, ℕ, ◌<◌, length, map, Some, slice_get}
use Rattle.map_frame.specs.Common.{polygon_numbers, Loss, element}
use Rattle.map_frame.proofs.names.forget_feature.Given as goal

-- the rings of the polygons so far have no names
abbrev pub invariant-loop-polygon : goal.invariant-loop-polygon
invariant-loop-polygon g l = record {
  lost : Loss l.fn.names.items l.names.items (λ r. (p i : ℕ)
      × (element (slice_get (map polygon_numbers l.polygons) p) i ≡ Some r) × (p < l.polygon-index));
  len : length l.names.items ≡ length l.fn.names.items;
}
