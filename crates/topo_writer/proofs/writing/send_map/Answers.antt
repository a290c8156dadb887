use Rattle.kit_words.proofs.Common.{◌∙◌, subst, sym}
use Rattle.device_io.specs.Common.{Took, TookFront}
use Rattle.device_io.proofs.Common.{sends_front, took_both, took_none, took_second}
use Rattle.topo_writer.specs.Common.{of_device, arcs_along, Finds, Device, OutOfMemory}
use Rattle.topo_writer.proofs.SectionLemmas.{arcs_are, begin_is, delta_is, end_is, front_at_arcs, front_at_begin, front_at_end, front_at_layers, front_at_middle, sections_are}
use Rattle.topo_writer.proofs.writing.send_map.Goals as goal

pub send_layers-requires-clause-table : goal.send_layers-requires-clause-table
send_layers-requires-clause-table g c =
    let d = c.args.map.now in
    record {
      finds = subst (λ r. Finds c.in_ok-arcs.arcs (arcs_along d r)) (sym c.in_ok-arcs.ensures.rings) c.in_ok-arcs.ensures.arcs;
      delta =
          c.in_ok-arcs.ensures.delta
          ∙ delta_is d c.args.frame.now c.requires.frame (λ t. t.now) c.transform.result c.transform.ensures _ c.is_some-delta.ensures;
    }

pub returns-in_err-arcs : goal.returns-in_err-arcs
returns-in_err-arcs g c = sends_front of_device OutOfMemory _ c.from_residual.ensures.1 (took_none c.requires.working)

pub returns-in_err-push_begin : goal.returns-in_err-push_begin
returns-in_err-push_begin g c = sends_front of_device OutOfMemory _ c.from_residual-in_err-push_begin.ensures.1 (took_none c.requires.working)

pub returns-in_err-put_all : goal.returns-in_err-put_all
returns-in_err-put_all g c =
    let d = c.args.map.now in
    let begin = begin_is d c.args.frame.now c.requires.frame _ _ _ _ c.transform-2.ensures c.new-text.ensures.items c.in_ok-push_begin.ensures c.as_slice.ensures.value in
    sends_front of_device Device _ c.from_residual-in_err-put_all.ensures.1
    (front_at_begin d (subst (TookFront g.W.Sink _ _ _) begin c.in_err-put_all.ensures))

pub returns-in_err-send_layers : goal.returns-in_err-send_layers
returns-in_err-send_layers g c =
    let d = c.args.map.now in
    let begin = begin_is d c.args.frame.now c.requires.frame _ _ _ _ c.transform-2.ensures c.new-text.ensures.items c.in_ok-push_begin.ensures c.as_slice.ensures.value in
    let begun = subst (Took g.W.Sink _ _) begin c.in_ok-put_all.ensures in
    sends_front of_device _ _ c.from_residual-in_err-send_layers.ensures.1
    (front_at_layers d (took_second begun c.in_err-send_layers.ensures.sends))

pub returns-in_err-put_all-2 : goal.returns-in_err-put_all-2
returns-in_err-put_all-2 g c =
    let d = c.args.map.now in
    let begin = begin_is d c.args.frame.now c.requires.frame _ _ _ _ c.transform-2.ensures c.new-text.ensures.items c.in_ok-push_begin.ensures c.as_slice.ensures.value in
    let begun = subst (Took g.W.Sink _ _) begin c.in_ok-put_all.ensures in
    sends_front of_device Device _ c.from_residual-in_err-put_all-2.ensures.1
    (front_at_middle d (took_second (took_both begun c.in_ok-send_layers.ensures.sends) c.in_err-put_all-2.ensures))

pub returns-in_err-put_all-3 : goal.returns-in_err-put_all-3
returns-in_err-put_all-3 g c =
    let d = c.args.map.now in
    let begin = begin_is d c.args.frame.now c.requires.frame _ _ _ _ c.transform-2.ensures c.new-text.ensures.items c.in_ok-push_begin.ensures c.as_slice.ensures.value in
    let begun = subst (Took g.W.Sink _ _) begin c.in_ok-put_all.ensures in
    let between = took_both (took_both begun c.in_ok-send_layers.ensures.sends) c.in_ok-put_all-2.ensures in
    let arcs = arcs_are d c.send_layers.new.arcs c.in_ok-send_layers.ensures.table c.in_ok-send_layers.ensures.arcs _ c.as_slice-2.ensures.value in
    sends_front of_device Device _ c.from_residual-in_err-put_all-3.ensures.1
    (front_at_arcs d (took_second between (subst (TookFront g.W.Sink _ _ _) arcs c.in_err-put_all-3.ensures)))

pub returns-in_err-push_end : goal.returns-in_err-push_end
returns-in_err-push_end g c =
    let d = c.args.map.now in
    let begin = begin_is d c.args.frame.now c.requires.frame _ _ _ _ c.transform-2.ensures c.new-text.ensures.items c.in_ok-push_begin.ensures c.as_slice.ensures.value in
    let begun = subst (Took g.W.Sink _ _) begin c.in_ok-put_all.ensures in
    let between = took_both (took_both begun c.in_ok-send_layers.ensures.sends) c.in_ok-put_all-2.ensures in
    let arcs = arcs_are d c.send_layers.new.arcs c.in_ok-send_layers.ensures.table c.in_ok-send_layers.ensures.arcs _ c.as_slice-2.ensures.value in
    let listed = took_both between (subst (Took g.W.Sink _ _) arcs c.in_ok-put_all-3.ensures) in
    sends_front of_device OutOfMemory _ c.from_residual-in_err-push_end.ensures.1
    (front_at_end d (took_second listed (took_none listed.works)))

pub returns-in_err-put_all-4 : goal.returns-in_err-put_all-4
returns-in_err-put_all-4 g c =
    let d = c.args.map.now in
    let begin = begin_is d c.args.frame.now c.requires.frame _ _ _ _ c.transform-2.ensures c.new-text.ensures.items c.in_ok-push_begin.ensures c.as_slice.ensures.value in
    let begun = subst (Took g.W.Sink _ _) begin c.in_ok-put_all.ensures in
    let between = took_both (took_both begun c.in_ok-send_layers.ensures.sends) c.in_ok-put_all-2.ensures in
    let arcs = arcs_are d c.send_layers.new.arcs c.in_ok-send_layers.ensures.table c.in_ok-send_layers.ensures.arcs _ c.as_slice-2.ensures.value in
    let listed = took_both between (subst (Took g.W.Sink _ _) arcs c.in_ok-put_all-3.ensures) in
    let end = end_is d c.args.frame.now c.requires.frame _ _ _ _ c.members.ensures c.clear.ensures.items c.in_ok-push_end.ensures c.as_slice-3.ensures.value in
    sends_front of_device Device _ c.from_residual-in_err-put_all-4.ensures.1
    (front_at_end d (took_second listed (subst (TookFront g.W.Sink _ _ _) end c.in_err-put_all-4.ensures)))

pub returns : goal.returns
returns g c =
    let d = c.args.map.now in
    let begin = begin_is d c.args.frame.now c.requires.frame _ _ _ _ c.transform-2.ensures c.new-text.ensures.items c.in_ok-push_begin.ensures c.as_slice.ensures.value in
    let begun = subst (Took g.W.Sink _ _) begin c.in_ok-put_all.ensures in
    let between = took_both (took_both begun c.in_ok-send_layers.ensures.sends) c.in_ok-put_all-2.ensures in
    let arcs = arcs_are d c.send_layers.new.arcs c.in_ok-send_layers.ensures.table c.in_ok-send_layers.ensures.arcs _ c.as_slice-2.ensures.value in
    let listed = took_both between (subst (Took g.W.Sink _ _) arcs c.in_ok-put_all-3.ensures) in
    let end = end_is d c.args.frame.now c.requires.frame _ _ _ _ c.members.ensures c.clear.ensures.items c.in_ok-push_end.ensures c.as_slice-3.ensures.value in
    subst (Took g.W.Sink _ _) (sym (sections_are d))
    (took_both listed (subst (Took g.W.Sink _ _) end c.in_ok-put_all-4.ensures))
