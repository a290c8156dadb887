use Rattle.kit_words.proofs.Common.{subst, sym, arith}
use Rattle.ring_parts.specs.Common.{rings_seen}
use Rattle.point_queries.specs.Common.{CoversRings}
use Rattle.point_queries.proofs.RingsCovered.{AreRings, rings_at, next_polygon, all_polygons}
use Rattle.point_queries.proofs.boxes.add_polygons.Goals as goal

pub add_rings-requires : goal.add_rings-requires
add_rings-requires g c =
    subst (λ z. AreRings (rings_seen z)) (sym c.as_slice.ensures.value)
    (rings_at c.args.polygons.now c.loop-polygon.polygon-index c.polygon-item.result c.loop-polygon-test.true c.polygon-item.is c.requires)

pub loop-polygon-preserved : goal.loop-polygon-preserved
loop-polygon-preserved g c = record {
  covered = next_polygon c.args.polygons.now c.loop-polygon.polygon-index c.polygon-item.result c.loop-polygon.boxes c.add_rings.new.boxes
      c.loop-polygon-test.true c.polygon-item.is c.add_rings.ensures.keeps
      (subst (λ z. CoversRings c.add_rings.new.boxes (rings_seen z)) c.as_slice.ensures.value c.in_ok-add_rings.ensures.covered)
      c.loop-polygon.invariant.covered;
  keeps = λ r h. c.add_rings.ensures.keeps r (c.loop-polygon.invariant.keeps r h);
}

pub returns-clause-covered : goal.returns-clause-covered
returns-clause-covered g c =
    all_polygons c.args.polygons.now c.loop-polygon.polygon-index c.loop-polygon.boxes
    (omega (arith, c.loop-polygon-test.false)) c.loop-polygon.invariant.covered
