use Rattle.kit_words.proofs.Common.{◌∙◌, subst, Contains}
use Rattle.grid_geometry.specs.Common.{position_cmp}
use Rattle.layer_sides.specs.Seen.{segments_seen, vertices_seen}
use Rattle.layer_sides.specs.Under.{Ascends}
use Rattle.layer_sides.proofs.Noting.{are_vertices}
use Rattle.layer_sides.proofs.vertices.vertices_of.Goals as goal

pub returns : goal.returns
returns g c =
    let levels = c.sort_once.new.positions.items in
    let ascends = subst (λ ps. Ascends position_cmp (Contains ps) levels) c.in_ok-levels.ensures c.sort_once.ensures in
    are_vertices (segments_seen c.args.borders.now) levels (vertices_seen c.in_ok-found.found.items) (vertices_seen c.note_all.new.vertices.items)
    ascends (c.in_ok-found.ensures.levels ∙ c.as_slice-2.ensures.value) c.in_ok-note_all.ensures.same c.in_ok-note_all.ensures.begun
