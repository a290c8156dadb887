-- The ends of a segment are the corners of its box, in x in their order.
use Rattle.kit_words.proofs.Common.{◌≡◌, ◌≤ℤ◌, ℤ, ◌&&◌, true, false, refl, int_le, arith, int_min, int_max, int_cmp}
use Rattle.kit_words.proofs.Common.{ordering_then, Less, ints}
use Rattle.grid_geometry.specs.Common.{Segment, IsSegment, Box}

first_before : (a b c d : ℤ) → ordering_then (int_cmp a b) (int_cmp c d) ≡ Less → a ≤ℤ b
first_before a b c d h = grind (arith, ints)

min_first : (a b : ℤ) → a ≤ℤ b → int_min a b ≡ a
min_first a b h = grind (arith, ints)

max_last : (a b : ℤ) → a ≤ℤ b → int_max a b ≡ b
max_last a b h = grind (arith, ints)

-- the lesser end has the least x
least_first : (s : Segment) → IsSegment s → int_min s.lo.x s.hi.x ≡ s.lo.x
least_first s h = min_first s.lo.x s.hi.x (first_before s.lo.x s.hi.x s.lo.y s.hi.y h)

-- the greater end has the greatest x
most_last : (s : Segment) → IsSegment s → int_max s.lo.x s.hi.x ≡ s.hi.x
most_last s h = max_last s.lo.x s.hi.x (first_before s.lo.x s.hi.x s.lo.y s.hi.y h)

-- a segment that doesn't begin past a box in x has an x of it where it doesn't end before it
pub across_then : (s : Segment) (b : Box) → IsSegment s → int_le s.lo.x b.x1 ≡ true → int_le b.x0 s.hi.x ≡ (int_le (int_min s.lo.x s.hi.x) b.x1 && int_le b.x0 (int_max s.lo.x s.hi.x))
across_then s b h first = rw (least_first s h, most_last s h, first) refl

-- one that begins past it has none
pub across_else : (s : Segment) (b : Box) → IsSegment s → int_le s.lo.x b.x1 ≡ false → false ≡ (int_le (int_min s.lo.x s.hi.x) b.x1 && int_le b.x0 (int_max s.lo.x s.hi.x))
across_else s b h first = rw (least_first s h, first) refl
