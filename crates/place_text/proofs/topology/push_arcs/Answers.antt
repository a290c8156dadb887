use Rattle.kit_words.proofs.Common.{◌==◌, not, refl, sym, ap, ◌∙◌, map, option_map, length-map}
use Rattle.map_text.specs.Common.{arc_text}
use Rattle.segment_paths.specs.Common.{paths_seen}
use Rattle.place_text.specs.Common.{side_ends, path_positions, ways}
use Rattle.place_text.proofs.Ways.{arcs_both, told_is}
use Rattle.place_text.proofs.topology.push_arcs.Goals as goal

pub returns : goal.returns
returns g c =
    let sides = c.args.sides.now in
    arcs_both (arc_text c.args.delta) (map side_ends sides) (ways (option_map (λ ps. paths_seen ps.now) c.args.paths)) _ _
    c.args.text.now.items c.extend_from_slice.new.self.items c.push_side_arcs.new.text.items c.push_way_arcs.new.text.items c.extend_from_slice-2.new.self.items
    (ap not c.is_empty.ensures ∙ ap (λ n. not (n == 0)) (sym (length-map sides side_ends))) (ap (λ ps. map path_positions (paths_seen ps.now)) c.unwrap_or-told.ensures ∙ told_is c.args.paths _ refl)
    c.in_ok-extend_from_slice.ensures.items c.in_ok-push_side_arcs.ensures c.in_ok-push_way_arcs.ensures c.in_ok-extend_from_slice-2.ensures.items
