-- The box of a position, and of a segment, meets those of the segments that meet it.
use Rattle.kit_words.proofs.Common.{◌≡◌, ℤ, true, ◌&&◌, int_le, arith, not, int_min, int_max, ints, clamps, and_parts}
use Rattle.kit_words.proofs.Common.{and_from}
use Rattle.grid_geometry.specs.Common.{cross, is_within, is_on, is_between, is_in_box, Position, Segment, Box, box_of}
use Rattle.grid_geometry.specs.Common.{boxes_meet, is_end, segment_lt}
use Rattle.grid_geometry.proofs.Common.{cross-boxes_meet, boxes_meet-comm}

-- the box of one position
abbrev pub box_at : Position → Box
box_at p = record { x0 = p.x; y0 = p.y; x1 = p.x; y1 = p.y }

between_meets : (a b z : ℤ) → is_between a b z ≡ true
    → (int_le (int_min a b) z && int_le z (int_max a b)) ≡ true
between_meets a b z h = grind (arith, ints, clamps)

pub within_meets : (p : Position) (s : Segment) → is_within p s ≡ true → boxes_meet (box_of s) (box_at p) ≡ true
unfolding is_within is_on
within_meets p s h =
    let on = (and_parts (is_on p s.lo s.hi) (not (is_end p s)) h).0 in
    let box = (and_parts _ (is_in_box p s.lo s.hi) on).1 in
    let k = and_parts (is_between s.lo.x s.hi.x p.x) (is_between s.lo.y s.hi.y p.y) box in
    and_from _ _ (between_meets s.lo.x s.hi.x p.x k.0) (between_meets s.lo.y s.hi.y p.y k.1)

pub crossing_meets : (s t : Segment) → (segment_lt s t && cross s t) ≡ true → boxes_meet (box_of t) (box_of s) ≡ true
crossing_meets s t h =
    boxes_meet-comm (box_of s) (box_of t) (cross-boxes_meet s t (and_parts (segment_lt s t) (cross s t) h).1)
