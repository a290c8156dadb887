use Rattle.kit_words.proofs.Common.{◌≡◌, drop, map}
use Rattle.topo_outline.specs.Common.{view_layer}
use Rattle.map_features.specs.Shapes.{description_of, heads_of}
use Rattle.map_features.proofs.ShapeLemmas.{found_with}
use Rattle.map_features.proofs.shapes.push_layers.Given as goal

-- the features so far, with those of the layers that are left
abbrev pub invariant-loop-layer : goal.invariant-loop-layer
invariant-loop-layer g l =
    let all = map (λ p. p.items) l.polygons in
    found_with description_of all l.shapes.items (heads_of (map view_layer (drop l.layer-index l.layers)))
    ≡ found_with description_of all l.fn.shapes.items (heads_of (map view_layer l.layers))
