use Rattle.kit_words.proofs.Common.{◌++◌, ◌∙◌, ap, map, subst, sym, Ok}
use Rattle.topo_outline.specs.Common.{view_kept}
use Rattle.topo_reader.specs.Common.{polygon_positions}
use Rattle.map_text.specs.Common.{type_text}
use Rattle.ring_machine.specs.Common.{Text}
use Rattle.geo_features.specs.Features.{geometry_begin, is_null, others_text}
use Rattle.geo_features.specs.Gives.{Appends}
use Rattle.geo_features.specs.Rings.{shape_text}
use Rattle.geo_features.specs.Seen.{view_style}
use Rattle.geo_features.proofs.FeatureTexts.{leaf_null, leaf_shape, two_before}
use Rattle.geo_features.proofs.features.push_shape.Goals as goal

pub returns-then-is_null : goal.returns-then-is_null
returns-then-is_null g c f form members polygons =
    rw (leaf_null (view_style c.args.style.now) f (ap is_null form ∙ sym c.is_null.ensures ∙ c.if-is_null.true))
    (ap (λ (z : Text). Ok z) (sym c.in_ok-extend_from_slice.ensures.items))

pub returns : goal.returns
returns g c f form members polygons =
    let s = view_style c.args.style.now in
    let old = c.args.text.now.items in
    let begun = c.push_geometry_begin.new.text.items in
    subst (Appends old c.push_others.new.text.items c.push_others.result)
    (sym (leaf_shape s f (ap is_null form ∙ sym c.is_null.ensures ∙ c.if-is_null.false)))
    (two_before old begun c.push_shape.new.text.items c.push_others.new.text.items (geometry_begin (type_text f.form)) (shape_text s f.form f.polygons)
    c.push_others.result (others_text f.members)
    (c.in_ok-push_geometry_begin.ensures ∙ ap (λ z. old ++ geometry_begin z) (c.type_token.ensures ∙ ap type_text (sym form)))
    (c.in_ok-push_shape.ensures ∙ ap (λ z. begun ++ shape_text s z (map polygon_positions c.args.polygons.now)) (sym form) ∙ ap (λ z. begun ++ shape_text s f.form z) (sym polygons))
    (subst (λ ms. Appends c.push_shape.new.text.items c.push_others.new.text.items c.push_others.result (others_text ms))
    (ap (map view_kept) c.as_slice.ensures.value ∙ sym members) c.push_others.ensures))
