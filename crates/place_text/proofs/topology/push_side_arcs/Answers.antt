use Rattle.kit_words.proofs.Common.{arith, sym, ap, ◌∙◌, ◌+◌, ◌++◌, map, take, take_all}
use Rattle.std.proofs.Common.{append-nil}
use Rattle.map_text.specs.Common.{arc_text, commas}
use Rattle.place_text.specs.Common.{side_ends}
use Rattle.place_text.proofs.Listed.{map_twice, map_step}
use Rattle.place_text.proofs.topology.push_side_arcs.Goals as goal

pub loop-index-init : goal.loop-index-init
loop-index-init g c = sym (append-nil c.args.text.now.items)

pub loop-index-preserved : goal.loop-index-preserved
loop-index-preserved g c =
    let old = c.args.text.now.items in
    let arc = arc_text c.args.delta in
    let sides = c.args.sides.now in
    map_step (λ s. arc (side_ends s)) sides c.loop-index.index c.index-sides-index.result c.loop-index-test.true c.index-sides-index.is
    old c.loop-index.text.items c.push_comma.new.text.items c.push_arc.new.text.items
    (c.loop-index.invariant ∙ ap (λ z. old ++ commas z) (map_twice arc side_ends (take c.loop-index.index sides)))
    c.in_ok-push_comma.ensures c.in_ok-push_arc.ensures
    ∙ ap (λ z. old ++ commas z) (sym (map_twice arc side_ends (take (c.loop-index.index + 1) sides)))

pub returns : goal.returns
returns g c =
    c.loop-index.invariant
    ∙ ap (λ z. c.args.text.now.items ++ commas (map (arc_text c.args.delta) (map side_ends z))) (take_all c.loop-index.index c.args.sides.now (omega arith))
