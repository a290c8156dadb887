use Rattle.kit_words.proofs.Common.{ap, subst, ◌∙◌, false, [], nat_lt}
use Rattle.device_io.specs.Common.{Took, TookFront}
use Rattle.device_io.proofs.Common.{sends_front, took_both, took_first, took_none, took_second}
use Rattle.map_text.specs.Common.{comma_if, items_text}
use Rattle.topo_writer.specs.Common.{of_device, items_at, items_written, arcs_in, Device, OutOfMemory}
use Rattle.topo_writer.proofs.LayerLemmas.{arcs_next, items_are, items_out, items_shown, layer_leads, layer_parts, name_shown, shows_layer}
use Rattle.topo_writer.proofs.Sent.{filled}
use Rattle.topo_writer.proofs.layers.send_layer.Goals as goal

pub send_items-requires-clause-shows : goal.send_items-requires-clause-shows
send_items-requires-clause-shows g c =
    let d = c.args.map.now in
    let items = c.in-Some-items.items in
    shows_layer d c.args.i items c.requires.there
    (items_shown d c.args.frame.now c.args.i items c.requires.frame c.requires.there c.in-Some-items.ensures)

pub send_items-requires-clause-leads : goal.send_items-requires-clause-leads
send_items-requires-clause-leads g c =
    let d = c.args.map.now in
    let frame = c.args.frame.now in
    let i = c.args.i in
    let items = c.in-Some-items.items in
    let shown = items_shown d frame i items c.requires.frame c.requires.there c.in-Some-items.ensures in
    layer_leads d i (arcs_in c.args.map.now c.args.arcs.now) (items_at d items) c.requires.frame.small c.requires.there c.requires.arcs
    (items_are d frame i items c.requires.frame c.requires.there shown)

pub returns-clause-arcs : goal.returns-clause-arcs
returns-clause-arcs g c =
    let d = c.args.map.now in
    let frame = c.args.frame.now in
    let i = c.args.i in
    let items = c.in-Some-items.items in
    let shown = items_shown d frame i items c.requires.frame c.requires.there c.in-Some-items.ensures in
    arcs_next d i c.requires.there (arcs_in c.args.map.now c.args.arcs.now) (arcs_in c.args.map.now c.send_items.new.arcs) (items_at d items) c.requires.arcs
    (items_are d frame i items c.requires.frame c.requires.there shown) c.in_ok-send_items.ensures.arcs

pub returns-in_err-push_name-clause-sends : goal.returns-in_err-push_name-clause-sends
returns-in_err-push_name-clause-sends g c = sends_front of_device OutOfMemory _ c.from_residual.ensures.1 (took_none c.requires.working)

pub returns-in_err-put_all-clause-sends : goal.returns-in_err-put_all-clause-sends
returns-in_err-put_all-clause-sends g c =
    let d = c.args.map.now in
    let i = c.args.i in
    let shown = items_shown d c.args.frame.now i c.in-Some-items.items c.requires.frame c.requires.there c.in-Some-items.ensures in
    let named = name_shown d c.args.frame.now i c.in-Some.name.now c.requires.frame c.requires.there c.in-Some.ensures in
    let out = items_out d c.args.frame.now i c.in-Some-items.items c.requires.frame c.requires.there shown in
    let whole = layer_parts d i (comma_if (nat_lt 0 i)) _ _ named (ap (items_text [] false) out) in
    let begin = c.as_slice.ensures.value ∙ filled _ _ _ c.clear.ensures.items c.in_ok-push_name.ensures in
    sends_front of_device Device _ c.from_residual-in_err-put_all.ensures.1
    (subst (TookFront g.W.Sink _ _ _) whole (took_first (items_text [] false (items_written d c.in-Some-items.items)) (subst (TookFront g.W.Sink _ _ _) begin c.in_err-put_all.ensures)))

pub returns-in_err-send_items-clause-sends : goal.returns-in_err-send_items-clause-sends
returns-in_err-send_items-clause-sends g c =
    let d = c.args.map.now in
    let i = c.args.i in
    let shown = items_shown d c.args.frame.now i c.in-Some-items.items c.requires.frame c.requires.there c.in-Some-items.ensures in
    let named = name_shown d c.args.frame.now i c.in-Some.name.now c.requires.frame c.requires.there c.in-Some.ensures in
    let out = items_out d c.args.frame.now i c.in-Some-items.items c.requires.frame c.requires.there shown in
    let whole = layer_parts d i (comma_if (nat_lt 0 i)) _ _ named (ap (items_text [] false) out) in
    let begin = c.as_slice.ensures.value ∙ filled _ _ _ c.clear.ensures.items c.in_ok-push_name.ensures in
    sends_front of_device _ _ c.from_residual-in_err-send_items.ensures.1
    (subst (TookFront g.W.Sink _ _ _) whole (took_second (subst (Took g.W.Sink _ _) begin c.in_ok-put_all.ensures) c.in_err-send_items.ensures.sends))

pub returns-clause-sends : goal.returns-clause-sends
returns-clause-sends g c =
    let d = c.args.map.now in
    let i = c.args.i in
    let shown = items_shown d c.args.frame.now i c.in-Some-items.items c.requires.frame c.requires.there c.in-Some-items.ensures in
    let named = name_shown d c.args.frame.now i c.in-Some.name.now c.requires.frame c.requires.there c.in-Some.ensures in
    let out = items_out d c.args.frame.now i c.in-Some-items.items c.requires.frame c.requires.there shown in
    let whole = layer_parts d i (comma_if (nat_lt 0 i)) _ _ named (ap (items_text [] false) out) in
    let begin = c.as_slice.ensures.value ∙ filled _ _ _ c.clear.ensures.items c.in_ok-push_name.ensures in
    subst (Took g.W.Sink _ _) whole (took_both (subst (Took g.W.Sink _ _) begin c.in_ok-put_all.ensures) c.in_ok-send_items.ensures.sends)
