use Rattle.kit_words.proofs.Common.{◌++◌, ◌∷◌, [], ◌∙◌, sym, ap, into_iter_items, into_iter_len, map_push, nothing_left}
use Rattle.ring_parts.specs.Common.{rings_seen, polygons_seen}
use Rattle.map_opening.specs.Common.{in_lists, rings_of_features, shape_of, lists_seen, features_seen}
use Rattle.map_opening.proofs.FlatLists.{moved, all_moved}
use Rattle.map_opening.proofs.flat.flattened.Goals as goal

pub loop-polygons-init : goal.loop-polygons-init
loop-polygons-init g c = record {
  rings = ap (λ z. rings_seen z ++ rings_of_features (features_seen (into_iter_items c.into_iter-polygons-iterator.result))) c.new-rings.ensures.items;
  shape = ap (λ z. lists_seen z ++ shape_of (features_seen (into_iter_items c.into_iter-polygons-iterator.result))) c.new-shape.ensures.items;
}

pub loop-polygons-preserved : goal.loop-polygons-preserved
loop-polygons-preserved g c =
    let before = into_iter_items c.loop-polygons.polygons-iterator in
    let left = into_iter_items c.next.new.self in
    let all = into_iter_items c.into_iter-polygons-iterator.result in
    let polygons = c.in-Some.polygons.items in
    record {
      rings = moved (rings_seen c.move_rings.new.rings.items) (rings_seen c.loop-polygons.rings.items) (in_lists (polygons_seen polygons)) (rings_of_features (features_seen left)) (rings_of_features (features_seen before))
          (rings_of_features (features_seen all)) c.in_ok-move_rings.ensures.rings (ap (λ z. rings_of_features (features_seen z)) c.in-Some.ensures.steps.0) c.loop-polygons.invariant.rings;
      shape = moved (lists_seen c.push.new.self.items) (lists_seen c.loop-polygons.shape.items) (c.in_ok-move_rings.field-0.items ∷ []) (shape_of (features_seen left)) (shape_of (features_seen before))
          (shape_of (features_seen all)) (ap lists_seen c.in_ok-push.ensures.items ∙ map_push (λ list. list.items) c.loop-polygons.shape.items c.in_ok-move_rings.field-0)
          (ap (λ z. shape_of (features_seen z)) c.in-Some.ensures.steps.0 ∙ ap (λ y. y ∷ shape_of (features_seen left)) (sym c.in_ok-move_rings.ensures.counts))
          c.loop-polygons.invariant.shape;
    }

pub returns : goal.returns
returns g c =
    let it = c.into_iter-polygons-iterator in
    let none = nothing_left (into_iter_items c.loop-polygons.polygons-iterator) (into_iter_len c.loop-polygons.polygons-iterator) c.loop-polygons.polygons-iterator.rest.ok.0 c.in-None.ensures.steps.0 in
    record {
      all = sym (all_moved (rings_seen c.loop-polygons.rings.items) (rings_of_features (features_seen (into_iter_items c.loop-polygons.polygons-iterator))) _
          (ap (λ z. rings_of_features (features_seen z)) none) c.loop-polygons.invariant.rings ∙ ap (λ z. rings_of_features (features_seen z)) it.ensures.into_iter_gives.0);
      alike = sym (all_moved (lists_seen c.loop-polygons.shape.items) (shape_of (features_seen (into_iter_items c.loop-polygons.polygons-iterator))) _
          (ap (λ z. shape_of (features_seen z)) none) c.loop-polygons.invariant.shape ∙ ap (λ z. shape_of (features_seen z)) it.ensures.into_iter_gives.0);
    }
