use Rattle.kit_words.proofs.Common.{◌≡◌, map, drop, ◌++◌}
use Rattle.topo_outline.specs.Common.{leaves_in, view_item, view_place}
use Rattle.topo_outline.proofs.places.push_places.Given as goal

abbrev pub invariant-loop-item : goal.invariant-loop-item
invariant-loop-item g l = map view_place l.out.items ++ leaves_in (map view_item (drop l.item-index l.items)) ≡ map view_place l.initial.out.items ++ leaves_in (map view_item l.fn.items)
