use Rattle.kit_words.proofs.Common.{◌<◌, ◌∙◌, sym, ap, length, get_or, arith}
use Rattle.grid_geometry.specs.Common.{xor}
use Rattle.map_frame.specs.declared.names.RingName.{RingName}
use Rattle.point_queries.specs.Common.{is_polygon, polygon_name}
use Rattle.point_queries.proofs.Odds.{odd_more}
use Rattle.point_queries.proofs.odd.odd_polygons.Goals as goal

abbrev none : RingName
none = record { feature = 0; polygon = 0; ring = 0 }

pub loop-ring-preserved : goal.loop-ring-preserved
loop-ring-preserved g c =
    let rings = c.args.rings.now in
    let i = c.loop-ring.ring-index in
    let within : i < length rings = omega (arith, c.loop-ring-test.true) in
    λ x.
    c.in_ok-toggle.ensures x
    ∙ ap (xor (is_polygon x (polygon_name (get_or rings i none)))) (c.loop-ring.invariant x)
    ∙ sym (odd_more (λ name. is_polygon x (polygon_name name)) rings i none within)
