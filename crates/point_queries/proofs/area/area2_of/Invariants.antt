use Rattle.kit_words.proofs.Common.{◌≡◌, ◌≤◌, ◌*◌, ◌+◌, ◌+ℤ◌, unsigned_abs, length, drop, fold, sum_by}
use Rattle.ring_machine.specs.Common.{area_of, polygon_area, feature_at}
use Rattle.point_queries.proofs.area.area2_of.Given as goal

-- with the polygons that are left it is the feature's area, and it is bounded
abbrev pub invariant-loop-polygon : goal.invariant-loop-polygon
invariant-loop-polygon g l =
    let feature = feature_at l.map.doc l.f in
    record {
      whole : fold (λ so_far polygon. so_far +ℤ polygon_area polygon) l.area (drop l.polygon feature.polygons) ≡ area_of feature;
      bound : unsigned_abs l.area + 2000000000000000000000000 * sum_by (sum_by length) (drop l.polygon feature.polygons) ≤ 2000000000000000000000000 * sum_by (sum_by length) feature.polygons;
    }
