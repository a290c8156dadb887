use Rattle.kit_words.proofs.Common.{◌++◌, ap, sym, ◌∙◌, drop, length, map}
use Rattle.topo_outline.specs.Common.{view_layer}
use Rattle.map_features.specs.Shapes.{description_of, descriptions_from, heads_of}
use Rattle.map_features.proofs.shapes.shapes_of.Goals as goal

pub returns : goal.returns
returns g c =
    let all = map (λ p. p.items) c.args.polygons.now in
    let heads = heads_of (map view_layer c.as_slice.result.now) in
    c.in_ok-push_layers.ensures
    ∙ (ap (λ old. map description_of old ++ descriptions_from (length old) heads (drop (length old) all)) c.new-shapes.ensures.items
    ∙ ap (λ xs. descriptions_from 0 (heads_of (map view_layer xs)) all) (c.as_slice.ensures ∙ c.values.ensures.rest))
