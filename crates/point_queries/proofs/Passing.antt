-- An edge that counts for a position: in either direction, and near the ray.
use Rattle.kit_words.proofs.Common.{◌≡◌, ℤ, pos, ◌≤◌, Bool, true, false, refl, cond, int_le, unsigned_abs, arith, is_gt}
use Rattle.kit_words.proofs.Common.{ints}
use Rattle.grid_geometry.specs.Common.{Position, InRange, position_cmp, is_counted, Segment, box_of, boxes_meet}
use Rattle.grid_geometry.specs.Common.{segment}
use Rattle.ring_machine.proofs.Walks.{is_counted-reverse}
use Rattle.point_queries.proofs.Holding.{counted_meets}
use Rattle.point_queries.specs.Common.{ray, is_passed}

-- ---- the direction does not matter

-- an edge counts where its segment does
pub passed_edge : (p a b : Position) → is_passed p (segment a b) ≡ is_counted p a b
passed_edge p a b = by (is_gt (position_cmp a b))
  where
    by : (t : Bool) → is_passed p (cond {A = Segment} t (record { lo = b; hi = a }) (record { lo = a; hi = b })) ≡ is_counted p a b
    by true = is_counted-reverse p a b
    by false = refl

-- ---- near the ray

in_reach : (a : ℤ) → unsigned_abs a ≤ 1000000000000 → int_le a (pos 1000000000000) ≡ true
in_reach a r = grind (arith, ints)

-- a segment that counts is near the ray
pub passed_meets : (p : Position) (s : Segment) → InRange s.lo → is_passed p s ≡ true → boxes_meet (box_of s) (ray p) ≡ true
passed_meets p s r h = counted_meets p s (pos 1000000000000) (in_reach s.lo.x r.across) h
