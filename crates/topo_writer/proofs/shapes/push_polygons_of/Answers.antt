use Rattle.kit_words.proofs.Common.{arith, refl, ◌≡◌, sym, ap, ◌∙◌, subst, ◌<◌, [], length, get_or, Contains}
use Rattle.kit_words.proofs.Common.{AllByRecursion, append-nil, get_or_default}
use Rattle.ring_machine.specs.Common.{rings, is_junction}
use Rattle.ring_machine.proofs.Common.{in_at}
use Rattle.topo_writer.specs.Common.{rings_at, polygons_at, arcs_in, written_polygon}
use Rattle.topo_writer.proofs.LaterParts.{each_part, polygon_same, rings_few, left_step, part_arcs, part_text}
use Rattle.topo_writer.proofs.SeenParts.{polygon_is_at, seen_count, seen_ring_count}
use Rattle.topo_writer.proofs.shapes.push_polygons_of.Goals as goal

pub push_polygon_of-requires-clause-count : goal.push_polygon_of-requires-clause-count
push_polygon_of-requires-clause-count g c =
    c.ring_count.ensures ∙ seen_ring_count c.args.map.now c.args.n c.loop-polygon.polygon c.args.view.now c.requires.seen

pub push_polygon_of-requires-clause-there : goal.push_polygon_of-requires-clause-there
push_polygon_of-requires-clause-there g c =
    let d = c.args.map.now in
    let ps = polygons_at d c.args.n in
    let h : c.loop-polygon.polygon < length ps = omega (arith, seen_count d c.args.n c.args.view.now c.requires.seen) in
    subst (AllByRecursion (Contains (rings d))) (sym (polygon_is_at d c.args.n c.loop-polygon.polygon))
    (each_part (Contains (rings d)) (λ polygon. polygon) ps (get_or ps c.loop-polygon.polygon []) (in_at ps c.loop-polygon.polygon [] h) c.requires.there)

pub push_polygon_of-requires-clause-table : goal.push_polygon_of-requires-clause-table
push_polygon_of-requires-clause-table g c = c.loop-polygon.invariant.table

pub push_polygon_of-requires-clause-few : goal.push_polygon_of-requires-clause-few
push_polygon_of-requires-clause-few g c =
    let d = c.args.map.now in
    let ps = polygons_at d c.args.n in
    let i = c.loop-polygon.polygon in
    let h : i < length ps = omega (arith, seen_count d c.args.n c.args.view.now c.requires.seen) in
    let e : rings_at d c.args.n i ≡ get_or ps i (rings_at d c.args.n i) = polygon_is_at d c.args.n i ∙ get_or_default ps i [] (rings_at d c.args.n i) h in
    omega (arith, c.loop-polygon.invariant.few, left_step (λ polygon. polygon) ps i (rings_at d c.args.n i) h e)

pub loop-polygon-init : goal.loop-polygon-init
loop-polygon-init g c = record {
  table = c.requires.table;
  few = c.requires.few;
  arcs = refl;
  text = sym (append-nil c.args.text.now.items);
}

pub loop-polygon-preserved : goal.loop-polygon-preserved
loop-polygon-preserved g c =
    let d = c.args.map.now in
    let j = is_junction d in
    let ps = polygons_at d c.args.n in
    let i = c.loop-polygon.polygon in
    let p = rings_at d c.args.n i in
    let h : i < length ps = omega (arith, seen_count d c.args.n c.args.view.now c.requires.seen) in
    let e : p ≡ get_or ps i p = polygon_is_at d c.args.n i ∙ get_or_default ps i [] p h in
    let arcs = c.in_ok-push_polygon_of.ensures.arcs in
    record {
      table = c.in_ok-push_polygon_of.ensures.table;
      few = omega (arith, c.loop-polygon.invariant.few, left_step (λ polygon. polygon) ps i p h e, ap length arcs, rings_few j (arcs_in c.args.map.now c.loop-polygon.arcs) p);
      arcs = part_arcs j (arcs_in c.args.map.now c.args.arcs.now) (λ polygon. polygon) ps i p h e (arcs_in c.args.map.now c.loop-polygon.arcs) (arcs_in c.args.map.now c.push_polygon_of.new.arcs) c.loop-polygon.invariant.arcs arcs;
      text = part_text j (arcs_in c.args.map.now c.args.arcs.now) (λ polygon. polygon) (written_polygon j) (polygon_same j) ps i p h e (arcs_in c.args.map.now c.loop-polygon.arcs) (arcs_in c.args.map.now c.push_polygon_of.new.arcs) c.loop-polygon.invariant.arcs arcs
          c.args.text.now.items c.loop-polygon.text.items c.push_comma.new.text.items c.push_polygon_of.new.text.items c.loop-polygon.invariant.text c.in_ok-push_comma.ensures c.in_ok-push_polygon_of.ensures.text;
    }
