-- The edges of rings by their ends, and how common ones follow each other.
use Rattle.std.specs.Prelude.{◌≡◌, ◌⊎◌, reverse, ℕ, Bool, not, ◌&&◌, List, [], ◌∷◌, ◌++◌, map}
use Rattle.std.specs.List.{zip, count_by, filter}
use Rattle.std.specs.Ordering.{ordering_then}
use Rattle.std.specs.declared.cmp.Ordering.{Ordering}
use Rattle.grid_geometry.specs.Common.{Position, position_cmp, Edge, edges}
use Rattle.ring_machine.specs.Common.{segment_of, is_common}

-- the ends of an edge, the lesser one first
abbrev pub ends_of : Edge → Edge
ends_of e = ((segment_of e).lo, (segment_of e).hi)

-- the order of edges: by where they begin, then by where they end
abbrev pub edge_cmp : Edge → Edge → Ordering
edge_cmp e f = ordering_then (position_cmp e.0 f.0) (position_cmp e.1 f.1)

-- each test with the next one, the last with the first
abbrev pub neighbours : List Bool → List (Bool × Bool)
neighbours [] = []
neighbours (b ∷ bs) = zip (b ∷ bs) (bs ++ b ∷ [])

-- how many pass after one that does not, the first after the last
abbrev pub begins : List Bool → ℕ
begins bs = count_by (λ u. not u.0 && u.1) (neighbours bs)

-- the positions whose tests fail
abbrev pub off_ones : List Position → List Bool → List Position
off_ones ps bs = map (λ u. u.0) (filter (λ u. not u.1) (zip ps bs))

-- both ends of each edge
abbrev pub both_ends : List Edge → List Position
both_ends [] = []
both_ends (e ∷ es) = e.0 ∷ e.1 ∷ both_ends es

-- both ends of each edge that is common
abbrev pub run_ends : (Edge → Bool) → List Edge → List Position
run_ends common es = both_ends (filter common es)

-- the ends of each edge of r whose segment is one of s
abbrev pub shared_ends : List Position → List Position → List Edge
shared_ends r s = map ends_of (filter (is_common s) (edges r))

-- the edge's segment is one of both rings
unfoldable pub is_shared : List Position → List Position → Edge → Bool
is_shared r s e = is_common r e && is_common s e

-- the ring, or the ring turned round
abbrev pub IsEitherWay : List Position → List Position → Type 0
IsEitherWay ring ps = (ps ≡ ring) ⊎ (ps ≡ reverse ring)
