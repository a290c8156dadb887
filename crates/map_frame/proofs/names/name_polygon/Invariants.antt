use Rattle.kit_words.proofs.Common.{◌≡◌, ◌<◌, length}
use Rattle.map_frame.specs.Common.{Gain}
use Rattle.map_frame.proofs.NamedLists.{OfPolygon}
use Rattle.map_frame.proofs.names.name_polygon.Given as goal

-- the rings so far have names
abbrev pub invariant-loop-ring : goal.invariant-loop-ring
invariant-loop-ring g l = record {
  gained : Gain l.fn.names.items l.names.items (λ o k. OfPolygon l.feature l.polygon l.rings o k × (o.ring < l.ring));
  len : length l.names.items ≡ length l.fn.names.items;
}
