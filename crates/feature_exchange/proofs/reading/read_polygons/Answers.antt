use Rattle.kit_words.proofs.Common.{◌≡◌, sym, ap, ◌∙◌, subst, map, option_map, IfOk}
use Rattle.map_frame.specs.Common.{polygon_numbers}
use Rattle.ring_parts.specs.Common.{polygons_seen}
use Rattle.feature_exchange.specs.Common.{stored}
use Rattle.feature_exchange.proofs.PolygonsRead.{along, numbers_held, polygons_read, no_polygons}
use Rattle.feature_exchange.proofs.reading.read_polygons.Goals as goal

pub feature_positions-requires-clause-held : goal.feature_positions-requires-clause-held
feature_positions-requires-clause-held g c =
    numbers_held (stored c.args.frame.now c.args.tables.now.borders c.args.tables.now.vertices) c.requires c.args.n c.in-Some.polygons.now (ap (option_map (λ ps. map polygon_numbers ps.now)) (sym c.in-Some.is) ∙ c.polygons.ensures)

pub feature_positions-requires-clause-along : goal.feature_positions-requires-clause-along
feature_positions-requires-clause-along g c =
    along (stored c.args.frame.now c.args.tables.now.borders c.args.tables.now.vertices) c.requires

pub returns-in-Some : goal.returns-in-Some
returns-in-Some g c =
    subst (λ z. IfOk c.feature_positions.result (λ found. polygons_seen found.items ≡ z))
    (polygons_read (stored c.args.frame.now c.args.tables.now.borders c.args.tables.now.vertices) c.requires c.args.n c.in-Some.polygons.now (ap (option_map (λ ps. map polygon_numbers ps.now)) (sym c.in-Some.is) ∙ c.polygons.ensures))
    c.feature_positions.ensures

pub returns-in-None : goal.returns-in-None
returns-in-None g c =
    ap polygons_seen c.new.ensures.items
    ∙ no_polygons (stored c.args.frame.now c.args.tables.now.borders c.args.tables.now.vertices) c.requires c.args.n (ap (option_map (λ ps. map polygon_numbers ps.now)) (sym c.in-None.is) ∙ c.polygons.ensures)
