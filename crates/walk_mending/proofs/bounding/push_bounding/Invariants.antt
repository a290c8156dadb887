use Rattle.kit_words.proofs.Common.{◌≡◌, ◌||◌, take, list_any}
use Rattle.grid_geometry.specs.Common.{Segment}
use Rattle.walk_mending.specs.Common.{is_among, is_bounding}
use Rattle.ring_parts.specs.Common.{polygons_seen}
use Rattle.walk_mending.proofs.bounding.push_bounding.Given as goal

-- those of the polygons so far
abbrev pub invariant-loop-walks : goal.invariant-loop-walks
invariant-loop-walks g l = (s : Segment) → is_among l.found.items s
    ≡ (is_among l.fn.found.items s || list_any (λ walks. is_bounding walks s) (polygons_seen (take l.walks-index l.polygons)))
