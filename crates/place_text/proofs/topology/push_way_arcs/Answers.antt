use Rattle.kit_words.proofs.Common.{◌≡◌, ◌||◌, nat_lt, arith, sym, ap, ◌∙◌, ◌++◌, map, take_all}
use Rattle.map_text.specs.Common.{arc_text, comma_if}
use Rattle.segment_paths.specs.Common.{path_of_segment, paths_seen}
use Rattle.place_text.specs.Common.{path_positions, behind_if}
use Rattle.place_text.proofs.Ways.{way_step, nothing_behind}
use Rattle.place_text.proofs.topology.push_way_arcs.Goals as goal
use Rattle.place_text.proofs.topology.push_way_arcs.Goals.{then-more, else-more}

pub loop-index-init : goal.loop-index-init
loop-index-init g c = sym (nothing_behind c.args.more c.args.text.now.items)

pub loop-index-preserved : goal.loop-index-preserved
loop-index-preserved g c =
    let follows : c.if-more.push_comma ≡ (c.args.more || nat_lt 0 c.loop-index.index) = elim c.if-more.branch [
      | then-more w ↦ w.push_comma-is ∙ w.if-more.true ∙ sym (ap (λ b. b || nat_lt 0 c.loop-index.index) w.if-more.true)
      | else-more w ↦ w.push_comma-is ∙ sym (ap (λ b. b || nat_lt 0 c.loop-index.index) w.if-more.false)
    ] in
    way_step c.args.more (arc_text c.args.delta) path_positions path_of_segment c.args.paths.now c.loop-index.index c.index-paths-index.result
    c.loop-index-test.true c.index-paths-index.is
    c.args.text.now.items c.loop-index.text.items c.push_comma.new.text.items c.push_way.new.text.items
    c.loop-index.invariant (c.in_ok-push_comma.ensures ∙ ap (λ b. c.loop-index.text.items ++ comma_if b) follows) c.in_ok-push_way.ensures

pub returns : goal.returns
returns g c =
    c.loop-index.invariant
    ∙ ap (λ z. c.args.text.now.items ++ behind_if c.args.more (map (arc_text c.args.delta) (map path_positions (paths_seen z)))) (take_all c.loop-index.index c.args.paths.now (omega arith))
