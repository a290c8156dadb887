use Rattle.kit_words.proofs.Common.{◌∙◌, ◌<◌, ◌≤◌, [], length, get_or, arith}
use Rattle.ring_machine.specs.Common.{feature_at}
use Rattle.script_runner.specs.Common.{ring_list_text}
use Rattle.script_runner.proofs.ListLemmas.{item_step, items_end}
use Rattle.script_runner.proofs.ring_lists.push_polygon.Goals as goal

pub loop-ring-preserved : goal.loop-ring-preserved
loop-ring-preserved g c =
    let rings = get_or (feature_at c.args.map.now.doc c.args.f).polygons c.args.polygon [] in
    let within : c.loop-ring.ring < length rings = omega (arith, c.requires, c.loop-ring-test.true) in
    item_step ring_list_text rings c.loop-ring.ring [] within c.loop-ring.text.items c.push_comma.new.text.items c.push_ring.new.text.items c.in_ok-push_comma.ensures c.in_ok-push_ring.ensures
    ∙ c.loop-ring.invariant

pub returns : goal.returns
returns g c =
    let rings = get_or (feature_at c.args.map.now.doc c.args.f).polygons c.args.polygon [] in
    let past : length rings ≤ c.loop-ring.ring = omega (arith, c.requires, c.loop-ring-test.false) in
    items_end ring_list_text rings c.loop-ring.ring c.args.text.now.items c.loop-ring.text.items c.extend_from_slice-2.new.self.items past c.loop-ring.invariant c.in_ok-extend_from_slice-2.ensures.items
