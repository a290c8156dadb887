use Rattle.kit_words.proofs.Common.{◌++◌, ◌∷◌, [], ◌∙◌, refl, sym, ap, map, length, into_iter_items, into_iter_len}
use Rattle.kit_words.proofs.Common.{length-map, map-append, nothing_left}
use Rattle.ring_parts.specs.Common.{rings_seen, polygons_seen}
use Rattle.map_opening.specs.Common.{in_lists}
use Rattle.map_opening.proofs.FlatLists.{moved, all_moved}
use Rattle.map_opening.proofs.flat.move_rings.Goals as goal

pub loop-polygon-init : goal.loop-polygon-init
loop-polygon-init g c = record {
  rings = refl;
  counts = ap (λ z. z ++ map length (polygons_seen (into_iter_items c.into_iter-polygon-iterator.result))) c.new-counts.ensures.items;
}

pub loop-polygon-preserved : goal.loop-polygon-preserved
loop-polygon-preserved g c =
    let before = into_iter_items c.loop-polygon.polygon-iterator in
    let left = into_iter_items c.next.new.self in
    let all = into_iter_items c.into_iter-polygon-iterator.result in
    let rings = c.in-Some.polygon.items in
    record {
      rings = moved (rings_seen c.append.new.self.items) (rings_seen c.loop-polygon.rings.items) (rings_seen rings) (in_lists (polygons_seen left)) (in_lists (polygons_seen before))
          (rings_seen c.args.rings.now.items ++ in_lists (polygons_seen all))
          (ap rings_seen c.in_ok-append.ensures.items ∙ map-append (λ ring. ring.items) c.loop-polygon.rings.items rings)
          (ap (λ z. in_lists (polygons_seen z)) c.in-Some.ensures.steps.0) c.loop-polygon.invariant.rings;
      counts = moved c.push.new.self.items c.loop-polygon.counts.items (c.len.result ∷ []) (map length (polygons_seen left)) (map length (polygons_seen before))
          (map length (polygons_seen all)) c.in_ok-push.ensures.items
          (ap (λ z. map length (polygons_seen z)) c.in-Some.ensures.steps.0
          ∙ ap (λ n. n ∷ map length (polygons_seen left)) (length-map rings (λ ring. ring.items) ∙ sym (c.len.ensures ∙ c.in-Some.polygon.ok.0)))
          c.loop-polygon.invariant.counts;
    }

pub returns-clause-rings : goal.returns-clause-rings
returns-clause-rings g c =
    let it = c.into_iter-polygon-iterator in
    all_moved (rings_seen c.loop-polygon.rings.items) (in_lists (polygons_seen (into_iter_items c.loop-polygon.polygon-iterator))) _
    (ap (λ z. in_lists (polygons_seen z)) (nothing_left (into_iter_items c.loop-polygon.polygon-iterator) (into_iter_len c.loop-polygon.polygon-iterator) c.loop-polygon.polygon-iterator.rest.ok.0 c.in-None.ensures.steps.0))
    c.loop-polygon.invariant.rings
    ∙ ap (λ z. rings_seen c.args.rings.now.items ++ in_lists (polygons_seen z)) it.ensures.into_iter_gives.0

pub returns-clause-counts : goal.returns-clause-counts
returns-clause-counts g c =
    let it = c.into_iter-polygon-iterator in
    all_moved c.loop-polygon.counts.items (map length (polygons_seen (into_iter_items c.loop-polygon.polygon-iterator))) _
    (ap (λ z. map length (polygons_seen z)) (nothing_left (into_iter_items c.loop-polygon.polygon-iterator) (into_iter_len c.loop-polygon.polygon-iterator) c.loop-polygon.polygon-iterator.rest.ok.0 c.in-None.ensures.steps.0))
    c.loop-polygon.invariant.counts
    ∙ ap (λ z. map length (polygons_seen z)) it.ensures.into_iter_gives.0
