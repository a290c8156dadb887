use Rattle.kit_words.proofs.Common.{◌≡◌, ◌≤◌, ◌*◌, ◌+◌, ◌-ℤ◌, unsigned_abs, [], length, get_or, drop, fold, sum_by}
use Rattle.ring_machine.specs.Common.{absolute_area, polygon_area, feature_at}
use Rattle.point_queries.proofs.area.polygon_area.Given as goal

-- less the holes that are left it is the polygon's area, and it is bounded
abbrev pub invariant-loop-hole : goal.invariant-loop-hole
invariant-loop-hole g l =
    let rings = get_or (feature_at l.map.doc l.f).polygons l.polygon [] in
    record {
      whole : fold (λ so_far hole. so_far -ℤ absolute_area hole) l.area (drop l.hole rings) ≡ polygon_area rings;
      bound : unsigned_abs l.area + 2000000000000000000000000 * sum_by length (drop l.hole rings) ≤ 2000000000000000000000000 * sum_by length rings;
    }
