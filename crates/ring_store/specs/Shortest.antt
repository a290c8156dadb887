-- The rings at a vertex, and the least of their edge counts.
use Rattle.std.specs.Prelude.{ℕ, ◌-◌, ◌^◌, Bool, true, false, List, [], ◌∷◌, map, Option, Some, None, length, min, if◌then◌else◌}
use Rattle.std.specs.List.{flat_map}
use Rattle.slab.specs.Slab.{Slab, get}
use Rattle.arc_tables.specs.declared.arc.Use.{Use}
use Rattle.arc_tables.specs.declared.arc.Arc.{Arc}
use Rattle.arc_tables.specs.declared.arc.Ring.{Ring}
use Rattle.ring_store.specs.declared.neighbours.Neighbours.{Neighbours}
use Rattle.ring_store.specs.declared.neighbours.Neighbours.TheVariants as neighbours
use Rattle.arc_tables.specs.Common.{chain, links, path_in, users_in, uses_in}
use Rattle.ring_store.specs.Neighbours.{noted_all, other_ends}

-- whether there is a neighbour
abbrev pub is_any : Neighbours → Bool
is_any neighbours.None = false
is_any n = true

-- whether a segment of the path ends at k
abbrev pub touches : ℕ → List ℕ → Bool
touches k ps = is_any (noted_all neighbours.None (other_ends k (links ps)))

-- the largest `usize`
abbrev pub most : ℕ
most = 2 ^ 64 - 1

-- how many edges these uses make, or this limit where they make more
abbrev pub edge_count : ℕ → (ℕ → List ℕ) → List Use → ℕ
edge_count limit path us = min (length (chain path us)) limit

-- the less of a number and one that may be there
abbrev pub less_of : Option ℕ → ℕ → Option ℕ
less_of None n = Some n
less_of (Some m) n = Some (min m n)

-- the least of these numbers and of one that may be there
abbrev pub least_number : Option ℕ → List ℕ → Option ℕ
least_number best [] = best
least_number best (n ∷ ns) = least_number (less_of best n) ns

-- the rings that have arc i, where a segment of it ends at k
abbrev pub users_at : (ℕ → List ℕ) → (ℕ → List ℕ) → ℕ → ℕ → List ℕ
users_at path users k i = if touches k (path i) then users i else []

-- the rings that have one of these arcs, where a segment of it ends at k
abbrev pub rings_among : (ℕ → List ℕ) → (ℕ → List ℕ) → List ℕ → ℕ → List ℕ
rings_among path users among k = flat_map (users_at path users k) among

module _ {A : Type 0} where
  -- the edge counts of these rings
  abbrev pub edge_counts : Slab (Arc A) → Slab (Ring A) → List ℕ → List ℕ
  edge_counts arcs rings rs = map (λ r. edge_count most (λ i. path_in (get arcs i)) (uses_in (get rings r))) rs

  -- those that pass k along one of these arcs
  abbrev pub rings_along : Slab (Arc A) → List ℕ → ℕ → List ℕ
  rings_along arcs among k = rings_among (λ i. path_in (get arcs i)) (λ i. users_in (get arcs i)) among k

  -- and along arc i
  abbrev pub rings_of_arc : Slab (Arc A) → ℕ → ℕ → List ℕ
  rings_of_arc arcs i k = users_at (λ j. path_in (get arcs j)) (λ j. users_in (get arcs j)) k i
