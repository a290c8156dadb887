use Rattle.kit_words.proofs.Common.{arith, refl, sym, ap, ◌∙◌, ◌+◌, ◌++◌, map, take, take_all, codes, appended_three}
use Rattle.std.proofs.Common.{append-nil}
use Rattle.map_text.specs.Common.{arc_text, commas}
use Rattle.cover_places.specs.Text.{side_positions}
use Rattle.cover_report.proofs.ToldLemmas.{told_more}
use Rattle.cover_places.proofs.Listed.{text_step, told_length}
use Rattle.cover_places.proofs.topology.push_arcs.Goals as goal

pub loop-index-init : goal.loop-index-init
loop-index-init g c = c.in_ok-extend_from_slice.ensures.items ∙ sym (append-nil (c.args.text.now.items ++ codes "["))

pub loop-index-preserved : goal.loop-index-preserved
loop-index-preserved g c =
    let sides = c.args.sides.now in
    let i = c.loop-index.index in
    let side = c.index-sides-index.result in
    let arc = arc_text c.args.delta in
    text_step (map arc (map side_positions (take i sides))) (map arc (map side_positions (take (i + 1) sides))) (arc (side_positions side)) i
    (told_more arc side_positions sides i side c.loop-index-test.true c.index-sides-index.is)
    (told_length side_positions sides i side c.loop-index-test.true c.index-sides-index.is arc)
    (c.args.text.now.items ++ codes "[") c.loop-index.text.items c.push_comma.new.text.items c.push_arc.new.text.items
    c.loop-index.invariant c.in_ok-push_comma.ensures c.in_ok-push_arc.ensures

pub returns : goal.returns
returns g c =
    let arcs = commas (map (arc_text c.args.delta) (map side_positions c.args.sides.now)) in
    appended_three c.args.text.now.items (codes "[") arcs (codes "]") (c.args.text.now.items ++ codes "[") c.loop-index.text.items _ refl
    (c.loop-index.invariant ∙ ap (λ z. (c.args.text.now.items ++ codes "[") ++ commas (map (arc_text c.args.delta) (map side_positions z))) (take_all c.loop-index.index c.args.sides.now (omega arith)))
    c.in_ok-extend_from_slice-2.ensures.items
