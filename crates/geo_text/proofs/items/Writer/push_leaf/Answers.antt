use Rattle.kit_words.proofs.Common.{◌≡◌, ◌++◌, Ok, map, refl, subst, sym}
use Rattle.json_spans.specs.Common.{node}
use Rattle.topo_outline.specs.Common.{form_of, numbered, polygons_at, view_head, view_kept}
use Rattle.topo_reader.specs.Common.{feature_positions}
use Rattle.geo_features.specs.Faults.{◌>>=◌}
use Rattle.geo_features.specs.Features.{is_null, leaf_geometry, not_of_form}
use Rattle.geo_features.specs.Gives.{Appends, IsGeoFault}
use Rattle.geo_text.specs.Items.{after_text, before_text}
use Rattle.geo_text.specs.Seen.{view_progress}
use Rattle.geo_features.specs.Seen.{view_style}
use Rattle.geo_features.proofs.Carrying.{appends_three, put_of, stops_first, stops_second, Put}
use Rattle.geo_text.proofs.ItemTexts.{leaf_whole}
use Rattle.geo_text.proofs.items.Writer.push_leaf.Goals as goal

pub returns-in-Err : goal.returns-in-Err
returns-in-Err g c =
    let at = view_progress c.args.at.now in
    let s = view_style c.args.self.now.style in
    let all = map feature_positions c.args.self.now.polygons.now in
    let form = form_of c.args.feature.now.form in
    let head = view_head c.args.feature.now.head in
    let f = numbered c.args.at.now.leaf form head (polygons_at all c.args.at.now.leaf) in
    let whole = leaf_whole c.args.self.now.flattens s at c.args.at.now.leaf all form head (node c.args.feature.now.arcs) in
    subst (IsGeoFault c.in-Err.fault) (sym whole)
    (stops_first c.in-Err.fault (before_text at head (is_null form)) _
    (subst (λ b. IsGeoFault c.in-Err.fault (before_text at head b)) c.is_null.ensures c.in-Err.ensures))

pub returns-in-Err-push_shape : goal.returns-in-Err-push_shape
returns-in-Err-push_shape g c =
    let at = view_progress c.args.at.now in
    let s = view_style c.args.self.now.style in
    let all = map feature_positions c.args.self.now.polygons.now in
    let form = form_of c.args.feature.now.form in
    let head = view_head c.args.feature.now.head in
    let f = numbered c.args.at.now.leaf form head (polygons_at all c.args.at.now.leaf) in
    let whole = leaf_whole c.args.self.now.flattens s at c.args.at.now.leaf all form head (node c.args.feature.now.arcs) in
    let before : Put c.args.text.now.items c.push_before.new.text.items (before_text at head (is_null form)) =
    put_of c.args.text.now.items c.push_before.new.text.items (before_text at head (is_null form))
    (subst (λ b. (before_text at head b >>= λ xs. Ok (c.args.text.now.items ++ xs)) ≡ Ok c.push_before.new.text.items) c.is_null.ensures c.in-Ok.ensures) in
    subst (IsGeoFault c.in-Err-push_shape.fault) (sym whole)
    (stops_second c.in-Err-push_shape.fault (before_text at head (is_null form)) (leaf_geometry s f) (after_text at.heads (not_of_form form) head.members) before.text before.is
    (c.in-Err-push_shape.ensures f refl refl (sym c.polygons_of-polygons.ensures.value)))

pub returns : goal.returns
returns g c =
    let at = view_progress c.args.at.now in
    let s = view_style c.args.self.now.style in
    let all = map feature_positions c.args.self.now.polygons.now in
    let form = form_of c.args.feature.now.form in
    let head = view_head c.args.feature.now.head in
    let f = numbered c.args.at.now.leaf form head (polygons_at all c.args.at.now.leaf) in
    let whole = leaf_whole c.args.self.now.flattens s at c.args.at.now.leaf all form head (node c.args.feature.now.arcs) in
    let before : Put c.args.text.now.items c.push_before.new.text.items (before_text at head (is_null form)) =
    put_of c.args.text.now.items c.push_before.new.text.items (before_text at head (is_null form))
    (subst (λ b. (before_text at head b >>= λ xs. Ok (c.args.text.now.items ++ xs)) ≡ Ok c.push_before.new.text.items) c.is_null.ensures c.in-Ok.ensures) in
    let shape : Put c.push_before.new.text.items c.push_shape.new.text.items (leaf_geometry s f) =
    put_of c.push_before.new.text.items c.push_shape.new.text.items (leaf_geometry s f) (c.in-Ok-push_shape.ensures f refl refl (sym c.polygons_of-polygons.ensures.value)) in
    subst (λ r. Appends c.args.text.now.items c.push_after.new.text.items c.push_after.result r) (sym whole)
    (appends_three _ _ _ _ (before_text at head (is_null form)) (leaf_geometry s f) (after_text at.heads (not_of_form form) head.members) c.push_after.result before shape
    (subst (λ z. Appends c.push_shape.new.text.items c.push_after.new.text.items c.push_after.result (after_text at.heads (not_of_form form) (map view_kept z))) c.as_slice.ensures.value
    (subst (λ z. Appends c.push_shape.new.text.items c.push_after.new.text.items c.push_after.result (after_text at.heads z (map view_kept c.as_slice.result.now))) c.not_of_form.ensures c.push_after.ensures)))
