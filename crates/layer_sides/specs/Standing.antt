-- Segments with the numbers of the polygons in whose rings they stand, and which of them are left when
-- equal ones cancel in pairs.
use Rattle.std.specs.Prelude.{◌≡◌, ◌&&◌, ◌==◌, ◌%◌, ℕ, suc, Bool, List, [], ◌∷◌, ◌++◌, map, length, nat_le, IsTrue}
use Rattle.std.specs.Prelude.{Contains, if◌then◌else◌}
use Rattle.std.specs.List.{count_by, flat_map, list_any}
use Rattle.std.specs.List.Sorted.{IsStrictlySortedBy}
use Rattle.std.specs.Ordering.{nat_cmp, ordering_then}
use Rattle.std.specs.declared.cmp.Ordering.{Ordering}
use Rattle.grid_geometry.specs.Common.{Position, position_eq, Segment, segment_cmp, segment_eq, Edge, edges}
use Rattle.ring_machine.specs.Common.{segment_of}
use Rattle.layer_sides.specs.declared.standing.Standing.{Standing}
use Rattle.layer_sides.specs.Sides.{Polygon}
use Rattle.layer_sides.specs.Borders.{Bordering}

-- the segment stands in a ring of the polygon with this number
abbrev pub stands : ℕ → Segment → Standing
stands n s = record { segment = s; polygon = n }

-- the order by the segment, then by the number of the polygon
abbrev pub standing_cmp : Standing → Standing → Ordering
standing_cmp a b = ordering_then (segment_cmp a.segment b.segment) (nat_cmp a.polygon b.polygon)

-- one segment, of one polygon
abbrev pub standing_eq : Standing → Standing → Bool
standing_eq a b = segment_eq a.segment b.segment && a.polygon == b.polygon

-- where an edge of the polygon's rings stands, if its ends differ
abbrev pub stands_at : ℕ → Edge → List Standing
stands_at n e = if position_eq e.0 e.1 then [] else (stands n (segment_of e) ∷ [])

-- the segments of one of the polygon's rings
abbrev pub standing_in_ring : ℕ → List Position → List Standing
standing_in_ring n ring = flat_map (stands_at n) (edges ring)

-- the segments of a polygon, as often as they stand there
abbrev pub standing_in : ℕ → Polygon → List Standing
standing_in n polygon = flat_map (standing_in_ring n) polygon

-- the segments of the polygons, of which the first has number n
abbrev pub standing_from : ℕ → List Polygon → List Standing
standing_from n [] = []
standing_from n (p ∷ ps) = standing_in n p ++ standing_from (suc n) ps

-- it is among these
abbrev pub is_standing : List Standing → Standing → Bool
is_standing xs x = list_any (standing_eq x) xs

-- it stands there an odd number of times
abbrev pub stands_odd : List Standing → Standing → Bool
stands_odd xs x = count_by (standing_eq x) xs % 2 == 1

-- x is the last one of the list
abbrev pub EndsIn : List Standing → Standing → Type 0
EndsIn xs x = (front : List Standing) × (xs ≡ front ++ x ∷ [])

-- the last one of the old list was x and is taken out, or it was not and x comes after it
pub data IsCancelled (old : List Standing) (x : Standing) (new : List Standing) : Type 0 where
  taken : old ≡ new ++ x ∷ [] → IsCancelled old x new
  put : new ≡ old ++ x ∷ [] → (EndsIn old x → ⊥) → IsCancelled old x new

-- a border with the numbers of the polygons that it bounds, one by one
abbrev pub numbered : Bordering → List Standing
numbered b = map (λ n. stands n b.segment) b.bounds

-- ascending borders for these, each with a polygon that it bounds, and with none on its right side
pub record AreGrouped (xs : List Standing) (borders : List Bordering) : Type 0 where
  pub all : flat_map numbered borders ≡ xs
  pub ascending : IsStrictlySortedBy segment_cmp (map (λ b. b.segment) borders)
  pub filled : (b : Bordering) → Contains borders b → IsTrue (nat_le 1 (length b.bounds))
