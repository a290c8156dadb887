use Rattle.kit_words.proofs.Common.{sym, length, length-map}
use Rattle.ring_parts.specs.Common.{polygons_seen}
use Rattle.layer_sides.specs.Common.{border_seen, borders_seen}
use Rattle.layer_sides.proofs.Bridge.{held}
use Rattle.layer_sides.proofs.Layers.{bounds-sorted, borders-apart, borders-kept, labels-kept}
use Rattle.layer_sides.proofs.sides.sides_of.Goals as goal

pub sweep-requires-clause-apart : goal.sweep-requires-clause-apart
sweep-requires-clause-apart g c =
    borders-apart (polygons_seen c.args.polygons.now) (borders_seen c.in_ok-borders.borders.items) c.requires c.in_ok-borders.ensures.borders

pub sweep-requires-clause-sorted : goal.sweep-requires-clause-sorted
sweep-requires-clause-sorted g c =
    bounds-sorted (polygons_seen c.args.polygons.now) (borders_seen c.in_ok-borders.borders.items) c.in_ok-borders.ensures.borders

pub returns-clause-borders : goal.returns-clause-borders
returns-clause-borders g c =
    borders-kept (polygons_seen c.args.polygons.now) (borders_seen c.in_ok-borders.borders.items) (borders_seen c.sweep.new.borders.items)
    c.in_ok-faces.ensures.segments c.in_ok-faces.ensures.bounds c.in_ok-borders.ensures.borders

-- what the sweep finds by the borders alone is what holds the right sides
pub returns-clause-held : goal.returns-clause-held
returns-clause-held g c =
    let polygons = polygons_seen c.args.polygons.now in
    let after = borders_seen c.sweep.new.borders.items in
    held polygons after
    (borders-kept polygons (borders_seen c.in_ok-borders.borders.items) after c.in_ok-faces.ensures.segments c.in_ok-faces.ensures.bounds c.in_ok-borders.ensures.borders)
    c.in_ok-faces.ensures.swept

pub returns-clause-labels : goal.returns-clause-labels
returns-clause-labels g c =
    let before = c.in_ok-borders.borders.items in
    let after = c.sweep.new.borders.items in
    labels-kept (borders_seen before) (borders_seen after) (length after) (length before) (length c.in_ok-faces.faces.items) c.in_ok-faces.ensures.segments
    (sym (length-map after border_seen)) (sym (length-map before border_seen)) c.in_ok-faces.ensures.labels
