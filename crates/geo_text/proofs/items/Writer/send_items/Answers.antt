use Rattle.kit_words.proofs.Common.{◌≡◌, ◌∙◌, ◌+◌, ◌<◌, ◌++◌, ◌∷◌, [], ap, arith, drop, length, map, mapped_more, refl, subst, sym, take, take_all}
use Rattle.device_io.specs.Common.{Took, TookFront}
use Rattle.topo_outline.specs.Common.{items_from, view_item}
use Rattle.topo_outline.specs.declared.fault.OpenFault.TheVariants as map_fault
use Rattle.topo_reader.specs.Common.{feature_positions}
use Rattle.geo_features.specs.declared.fault.ExportFault.TheVariants as fault
use Rattle.geo_features.specs.Gives.{IsGeoFault}
use Rattle.geo_text.specs.Items.{items_text, items_texts, list_end}
use Rattle.geo_text.specs.Seen.{view_progress}
use Rattle.geo_features.specs.Seen.{view_style}
use Rattle.geo_features.proofs.Carrying.{Put, put_of}
use Rattle.geo_text.proofs.ItemsSent.{AreSent, all_sent, map_split, next_stops, none_sent, one_sent}
use Rattle.geo_text.proofs.Sent.{failed, no_memory, sends_err, stopped}
use Rattle.geo_text.proofs.items.Writer.send_items.Goals as goal

pub loop-item-init : goal.loop-item-init
loop-item-init g c =
    none_sent c.args.self.now.flattens (view_style c.args.self.now.style) (map feature_positions c.args.self.now.polygons.now) c.args.at.now.leaf (view_progress c.args.at.now)
    c.args.out.now c.requires.working

pub loop-item-preserved : goal.loop-item-preserved
loop-item-preserved g c =
    let fl = c.args.self.now.flattens in
    let s = view_style c.args.self.now.style in
    let all = map feature_positions c.args.self.now.polygons.now in
    let first = c.args.at.now.leaf in
    let start = view_progress c.args.at.now in
    let items = c.args.items.now in
    let i = c.loop-item.item-index in
    let item = c.item-item.result in
    let x = view_item item in
    let at = view_progress c.loop-item.at in
    let next = c.loop-item.at.leaf in
    let pieces = map view_item (take i items) in
    let rest = map view_item (drop (i + 1) items) in
    let lt : i < length items = omega arith in
    let p : Put c.clear.new.self.items c.push_item.new.text.items (items_texts fl s at (items_from next all (x ∷ []))) = put_of _ _ _ c.in-Ok.ensures.text in
    let text : c.as_slice.result.now ≡ p.text = c.as_slice.ensures.value ∙ p.put ∙ ap (λ z. z ++ p.text) c.clear.ensures.items in
    subst (λ z. AreSent g.W.Sink fl s all first start z c.args.out.now c.put_all.new.sink (view_progress c.push_item.new.at) c.push_item.new.at.leaf)
    (sym (mapped_more view_item items i item lt c.item-item.is))
    (one_sent fl s all first start pieces c.args.out.now c.loop-item.out at next c.loop-item.invariant x c.put_all.new.sink p.text (view_progress c.push_item.new.at) c.push_item.new.at.leaf
    p.is (subst (Took g.W.Sink c.loop-item.out c.put_all.new.sink) text c.in_ok-put_all.ensures) c.in-Ok.ensures.after c.in-Ok.ensures.leaf)

pub returns-in-Err : goal.returns-in-Err
returns-in-Err g c =
    let fl = c.args.self.now.flattens in
    let s = view_style c.args.self.now.style in
    let all = map feature_positions c.args.self.now.polygons.now in
    let first = c.args.at.now.leaf in
    let start = view_progress c.args.at.now in
    let items = c.args.items.now in
    let i = c.loop-item.item-index in
    let item = c.item-item.result in
    let x = view_item item in
    let at = view_progress c.loop-item.at in
    let next = c.loop-item.at.leaf in
    let pieces = map view_item (take i items) in
    let rest = map view_item (drop (i + 1) items) in
    let lt : i < length items = omega arith in
    let whole : map view_item items ≡ pieces ++ x ∷ rest = map_split view_item items i item lt c.item-item.is in
    stopped c.in-Err.fault _ c.loop-item.invariant.took
    (subst (λ z. IsGeoFault c.in-Err.fault (items_text fl s start (items_from first all z))) (sym whole)
    (next_stops fl s all first start pieces c.args.out.now c.loop-item.out at next c.loop-item.invariant x rest c.in-Err.fault c.in-Err.ensures.text))

pub returns-in_err-put_all : goal.returns-in_err-put_all
returns-in_err-put_all g c = sends_err fault.Device c.from_residual.result c.from_residual.ensures.1 (failed _ c.loop-item.invariant.took c.in_err-put_all.ensures)

pub returns-in_err-put_all-2 : goal.returns-in_err-put_all-2
returns-in_err-put_all-2 g c =
    sends_err fault.Device c.from_residual-in_err-put_all-2.result c.from_residual-in_err-put_all-2.ensures.1 (failed _ c.loop-item.invariant.took c.in_err-put_all-2.ensures)

pub returns : goal.returns
returns g c =
    let fl = c.args.self.now.flattens in
    let s = view_style c.args.self.now.style in
    let all = map feature_positions c.args.self.now.polygons.now in
    let first = c.args.at.now.leaf in
    let start = view_progress c.args.at.now in
    let items = c.args.items.now in
    let at = view_progress c.loop-item.at in
    let next = c.loop-item.at.leaf in
    let sent : AreSent g.W.Sink fl s all first start (map view_item items) c.args.out.now c.loop-item.out at next =
    subst (λ z. AreSent g.W.Sink fl s all first start (map view_item z) c.args.out.now c.loop-item.out at next) (take_all c.loop-item.item-index items c.loop-item-test.false) c.loop-item.invariant in
    let text : c.as_slice-2.result.now ≡ list_end at.feature =
    c.as_slice-2.ensures.value ∙ c.in_ok-push_list_end.ensures ∙ ap (λ z. z ++ list_end at.feature) c.clear-2.ensures.items in
    all_sent fl s all first start (map view_item items) c.args.out.now c.loop-item.out c.put_all-2.new.sink at next sent c.as_slice-2.result.now text c.in_ok-put_all-2.ensures
