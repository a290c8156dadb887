use Rattle.kit_words.proofs.Common.{◌≡◌, drop, map}
use Rattle.std.specs.Prelude.{flat_map}
use Rattle.topo_outline.specs.Common.{view_item}
use Rattle.map_features.specs.Shapes.{description_of, heads_in}
use Rattle.map_features.proofs.ShapeLemmas.{found_with}
use Rattle.map_features.proofs.shapes.push_leaves.Given as goal

-- the features so far, with those of the items that are left
abbrev pub invariant-loop-item : goal.invariant-loop-item
invariant-loop-item g l =
    let all = map (λ p. p.items) l.polygons in
    found_with description_of all l.shapes.items (flat_map heads_in (map view_item (drop l.item-index l.items)))
    ≡ found_with description_of all l.fn.shapes.items (flat_map heads_in (map view_item l.items))
