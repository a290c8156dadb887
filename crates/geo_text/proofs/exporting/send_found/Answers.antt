use Rattle.kit_words.proofs.Common.{◌≡◌, ◌∙◌, ◌++◌, ap, ap₂, map, option_map, subst}
use Rattle.device_io.specs.Common.{Took}
use Rattle.topo_outline.specs.Common.{items_from, view_head, view_item, view_kept}
use Rattle.topo_reader.specs.Common.{feature_positions, view_raw}
use Rattle.geo_text.specs.Found.{head_or_none, view_found}
use Rattle.geo_text.specs.Layer.{front_of}
use Rattle.geo_text.specs.Seen.{view_progress}
use Rattle.geo_features.specs.Seen.{view_style}
use Rattle.geo_features.proofs.Carrying.{Put, put_of}
use Rattle.geo_text.proofs.LayersSent.{layer_sent}
use Rattle.geo_text.proofs.exporting.send_found.Goals as goal

pub returns : goal.returns
returns g c =
    let found = view_found c.args.found in
    let o = view_raw c.args.raw.now in
    let h = option_map (λ h. view_head h.now) c.head_of.result in
    let ms = map view_kept c.as_slice.result.now in
    let all = map feature_positions c.args.writer.now.polygons.now in
    let pieces = map view_item c.inside.result.now in
    let front : Put c.new-text.result.items c.push_front.new.text.items (front_of found.layer.name (head_or_none h) ms) = put_of _ _ _ c.in-Ok.ensures in
    let text : c.as_slice-2.result.now ≡ front.text = c.as_slice-2.ensures.value ∙ front.put ∙ ap (λ z. z ++ front.text) c.new-text.ensures.items in
    layer_sent (view_style c.args.writer.now.style) c.args.writer.now.flattens found o h ms c.head_of.ensures (ap (map view_kept) c.as_slice.ensures.value)
    c.args.out.now c.put_all.new.sink c.send_items.new.out c.send_items.result front.text (view_progress c.new-at.result) (items_from c.new-at.result.leaf all pieces)
    front.is (subst (Took g.W.Sink c.args.out.now c.put_all.new.sink) text c.in_ok-put_all.ensures) c.new-at.ensures.at
    (ap (λ n. items_from n all pieces) c.new-at.ensures.leaf ∙ ap₂ (λ x y. items_from found.leaves (map feature_positions x) y) c.requires.polygons c.inside.ensures)
    c.send_items.ensures
