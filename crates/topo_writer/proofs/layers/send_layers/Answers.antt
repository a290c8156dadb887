use Rattle.kit_words.proofs.Common.{◌≡◌, ◌<◌, ap, ◌∙◌, arith, length}
use Rattle.device_io.proofs.Common.{sends_front, took_nothing}
use Rattle.topo_writer.specs.Common.{of_device, arcs_along, arcs_after, layer_at, layer_text}
use Rattle.topo_writer.proofs.LayerLemmas.{arcs_whole, layer_count, layer_there}
use Rattle.topo_writer.proofs.Sent.{sent_step, sent_part}
use Rattle.topo_writer.proofs.layers.send_layers.Goals as goal

pub returns-in_err-send_layer-clause-sends : goal.returns-in_err-send_layer-clause-sends
returns-in_err-send_layer-clause-sends g c =
    let d = c.args.map.now in
    let i = c.loop-i.i in
    let within : i < length d.layers = omega (arith, layer_count d c.args.frame.now c.requires.frame) in
    sends_front of_device _ _ c.from_residual.ensures.1
    (sent_part (layer_text d) d.layers i (layer_at d i) within (layer_there d i within) c.loop-i.invariant.took c.in_err-send_layer.ensures.sends)

pub loop-i-preserved : goal.loop-i-preserved
loop-i-preserved g c =
    let d = c.args.map.now in
    let i = c.loop-i.i in
    let within : i < length d.layers = omega (arith, layer_count d c.args.frame.now c.requires.frame) in
    record {
      took = sent_step (layer_text d) d.layers i (layer_at d i) within (layer_there d i within) c.loop-i.invariant.took c.in_ok-send_layer.ensures.sends;
      table = c.in_ok-send_layer.ensures.table;
      arcs = c.in_ok-send_layer.ensures.arcs;
    }

pub returns-clause-arcs : goal.returns-clause-arcs
returns-clause-arcs g c =
    let d = c.args.map.now in
    let all : c.loop-i.i ≡ length d.layers = omega (arith, layer_count d c.args.frame.now c.requires.frame) in
    c.loop-i.invariant.arcs ∙ ap (arcs_after d) all ∙ arcs_whole d

pub loop-i-init : goal.loop-i-init
loop-i-init g c = record {
  took = took_nothing c.requires.working;
  table = c.requires.table;
  arcs = ap (arcs_along c.args.map.now) c.requires.none;
}
