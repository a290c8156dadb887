use Rattle.kit_words.proofs.Common.{◌-◌, refl, ap, ◌∙◌, ℕ, length, map, take}
use Rattle.topo_outline.specs.Common.{values, view_layer}
use Rattle.topo_reader.specs.Common.{view_raw, feature_positions, feature_corners, polygon_positions, polygon_corners}
use Rattle.topo_reader.specs.Common.{positions_of}
use Rattle.topo_reader.proofs.Widening.{extent_document, feature_joined, over_rings, polygon_joined}
use Rattle.topo_reader.proofs.document.RawDoc.extent.Goals as goal

pub returns : goal.returns
returns g c =
    let raw = c.args.self.now in
    let named = ap (λ (k : ℕ). length raw.polygons.items - k) (rw (c.as_slice-features.ensures.value, c.as_slice.ensures, c.values.ensures.rest) at c.less_layers-unnamed.ensures) in
    c.with_features.ensures
    ∙ rw c.as_slice-features.ensures.value (over_rings (take (length raw.polygons.items - c.less_layers-unnamed.result) raw.polygons.items) ∙ extent_document feature_positions feature_corners (λ f. feature_joined polygon_positions polygon_corners (λ p. polygon_joined positions_of p.items) f.items) raw.polygons.items (map view_layer (values raw.layers)) (view_raw raw) (length raw.polygons.items - c.less_layers-unnamed.result) refl refl named)
