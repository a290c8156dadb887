use Rattle.kit_words.proofs.Common.{◌++◌, ◌∙◌, ap, map, subst, sym}
use Rattle.ring_machine.specs.Common.{Head}
use Rattle.topo_outline.specs.Common.{view_kept}
use Rattle.geo_features.specs.Features.{geometry_begin, others_text}
use Rattle.geo_features.specs.Gives.{Appends, IsGeoFault}
use Rattle.geo_features.specs.Points.{point_coordinates, point_head, point_type}
use Rattle.geo_features.specs.Seen.{view_style}
use Rattle.geo_features.proofs.Carrying.{Put, put_of, stops_first}
use Rattle.geo_features.proofs.FeatureTexts.{one_between, point_whole}
use Rattle.geo_features.proofs.features.push_point.Goals as goal

pub returns-in-Err : goal.returns-in-Err
returns-in-Err g c t is =
    let s = view_style c.args.style.now in
    let n = c.args.point.now.number in
    subst (IsGeoFault c.in-Err.fault) (sym (point_whole s n t)) (stops_first c.in-Err.fault (point_coordinates s n t) _ (c.in-Err.ensures t is))

pub returns : goal.returns
returns g c t is =
    let s = view_style c.args.style.now in
    let n = c.args.point.now.number in
    let old = c.args.text.now.items in
    let begun = c.push_geometry_begin.new.text.items in
    let placed : Put begun c.push_coordinates.new.text.items (point_coordinates s n t) = put_of _ _ _ (c.in-Ok.ensures t is) in
    subst (Appends old c.push_others.new.text.items c.push_others.result) (sym (point_whole s n t))
    (one_between old begun c.push_coordinates.new.text.items c.push_others.new.text.items (geometry_begin (point_type t)) c.push_others.result
    (point_coordinates s n t) (others_text (point_head t).members)
    (c.in_ok-push_geometry_begin.ensures ∙ ap (λ z. old ++ geometry_begin z) (c.type_token.ensures t is)) placed
    (subst (λ ms. Appends c.push_coordinates.new.text.items c.push_others.new.text.items c.push_others.result (others_text ms))
    (ap (map view_kept) c.as_slice.ensures.value ∙ ap (λ (h : Head). h.members) is.head) c.push_others.ensures))
