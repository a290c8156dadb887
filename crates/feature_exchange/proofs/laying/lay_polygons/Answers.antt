use Rattle.kit_words.proofs.Common.{◌≡◌, true, map, take, sym, ap, ◌∙◌, subst, list_all, map_push, flat_map-map}
use Rattle.kit_words.proofs.Common.{mapped_more}
use Rattle.ring_machine.specs.Common.{is_ring}
use Rattle.map_frame.specs.Common.{polygon_numbers}
use Rattle.ring_parts.specs.Common.{rings_seen, polygons_seen}
use Rattle.feature_exchange.proofs.LaidBeside.{laid_twice}
use Rattle.feature_exchange.proofs.LaidSoFar.{so_far_more, polygon_agree, all_here}
use Rattle.feature_exchange.proofs.laying.lay_polygons.Goals as goal

pub lay_polygon-requires-clause-rings : goal.lay_polygon-requires-clause-rings
lay_polygon-requires-clause-rings g c =
    subst (λ z. list_all is_ring (rings_seen z) ≡ true) (sym (c.as_slice.ensures.value ∙ ap (λ p. p.items) c.polygon-item.is))
    (all_here (λ polygon. rings_seen polygon.items) is_ring c.args.polygons.now c.loop-polygon.polygon-index c.polygon-item.result c.loop-polygon-test.true
    (ap (list_all is_ring) (sym (flat_map-map (λ p. p) (λ polygon. rings_seen polygon.items) c.args.polygons.now)) ∙ c.requires.rings))

pub returns-in_err-numbers-clause-laid : goal.returns-in_err-numbers-clause-laid
returns-in_err-numbers-clause-laid g c =
    laid_twice c.args.tables.now.vertices c.args.tables.now.borders c.args.laid.now.items c.loop-polygon.tables.vertices c.loop-polygon.tables.borders c.loop-polygon.laid.items
    c.lay_polygon.new.tables.vertices c.lay_polygon.new.tables.borders c.lay_polygon.new.laid.items c.loop-polygon.invariant.more.laid c.lay_polygon.ensures.laid

pub returns-in_err-push-clause-laid : goal.returns-in_err-push-clause-laid
returns-in_err-push-clause-laid g c =
    laid_twice c.args.tables.now.vertices c.args.tables.now.borders c.args.laid.now.items c.loop-polygon.tables.vertices c.loop-polygon.tables.borders c.loop-polygon.laid.items
    c.lay_polygon.new.tables.vertices c.lay_polygon.new.tables.borders c.lay_polygon.new.laid.items c.loop-polygon.invariant.more.laid c.lay_polygon.ensures.laid

pub loop-polygon-preserved : goal.loop-polygon-preserved
loop-polygon-preserved g c =
    so_far_more (λ p. p) map polygon_agree
    c.args.tables.now c.args.laid.now.items c.loop-polygon.tables c.loop-polygon.laid.items c.lay_polygon.new.tables c.lay_polygon.new.laid.items
    (map polygon_numbers c.loop-polygon.lists.items) (polygons_seen (take c.loop-polygon.polygon-index c.args.polygons.now))
    c.loop-polygon.invariant c.in_ok-numbers.numbers.items (rings_seen c.polygon-item.result.items)
    (record {
      stand = c.lay_polygon.ensures.stand;
      laid = c.lay_polygon.ensures.laid;
      numbers = c.in_ok-numbers.ensures.numbers;
      cells = c.lay_polygon.ensures.cells;
    })
    (c.in_ok-numbers.ensures.at ∙ ap rings_seen c.as_slice.ensures.value)
    _ _
    (ap (map polygon_numbers) c.in_ok-push.ensures.items ∙ map_push polygon_numbers c.loop-polygon.lists.items c.in_ok-numbers.numbers)
    (mapped_more (λ polygon. rings_seen polygon.items) c.args.polygons.now c.loop-polygon.polygon-index c.polygon-item.result c.loop-polygon-test.true c.polygon-item.is)
