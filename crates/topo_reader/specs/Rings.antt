-- Walks and rings from the arcs that they use.
use Rattle.std.specs.Prelude.{ℕ, ◌-◌, ◌&&◌, List, [], ◌∷◌, ◌++◌, length, take, Bool, true, false, nat_le, if◌then◌else◌, Option, Some, None, Result, Ok, Err, reverse}
use Rattle.grid_geometry.specs.Common.{Position, position_eq}
use Rattle.ring_machine.specs.Common.{has, canonical}
use Rattle.topo_outline.specs.declared.fault.RingAt.{RingAt}
use Rattle.topo_outline.specs.Common.{Fault, arcs_do_not_meet, ring_short, ring_repeats, ◌>>=◌, each_at, demand}
use Rattle.topo_reader.specs.declared.rings.Closed.{Closed}
use Rattle.topo_reader.specs.declared.rings.Closed.TheVariants.{Rings, Walks}
use Rattle.topo_reader.specs.Arcs.{Arc}

abbrev pub is_at : Option Position → Position → Bool
is_at None p = false
is_at (Some q) p = position_eq q p

abbrev pub first_of : Arc → Option Position
first_of [] = None
first_of (p ∷ ps) = Some p

abbrev pub last_of : Arc → Option Position
last_of a = first_of (reverse a)

abbrev pub starts_at : Option Position → Option Position → Bool
starts_at None before = false
starts_at (Some p) before = is_at before p

-- each begins where the one before it ends
unfoldable pub meet_from : Option Position → List Arc → Bool
meet_from before [] = true
meet_from before (a ∷ as') = starts_at (first_of a) before && meet_from (last_of a) as'

-- where the last one ends
unfoldable pub ends : Option Position → List Arc → Option Position
ends before [] = before
ends before (a ∷ as') = ends (last_of a) as'

-- and the first where the last ends (TopoJSON 1.0, 2.1.4)
abbrev pub meet : List Arc → Bool
meet uses = meet_from (ends None uses) uses

abbrev pub unless : Bool → Position → List Position
unless true p = []
unless false p = p ∷ []

-- the positions but for those that are equal to the one before them
unfoldable pub squeezed : Option Position → List Position → List Position
squeezed before [] = []
squeezed before (p ∷ ps) = unless (is_at before p) p ++ squeezed (Some p) ps

-- the last position, or the one before them all
unfoldable pub last_after : Option Position → List Position → Option Position
last_after before [] = before
last_after before (p ∷ ps) = last_after (Some p) ps

-- all but the last
abbrev pub front : List Position → List Position
front ps = take (length ps - 1) ps

unfoldable pub all_of : List Arc → List Position
all_of [] = []
all_of (a ∷ as') = a ++ all_of as'

-- the positions of all arcs, equal neighbours once, and the last, which is the first, left out
abbrev pub joined : List Arc → List Position
joined uses = front (squeezed None (all_of uses))

-- the first position that stood before
unfoldable pub first_repeat : List Position → List Position → Option Position
first_repeat seen [] = None
first_repeat seen (p ∷ ps) = if has seen p then Some p else first_repeat (seen ++ p ∷ []) ps

-- a walk: its arcs meet
unfoldable pub walk_of : RingAt → List Arc → Result (List Position) Fault
walk_of at_ring uses = demand (meet uses) (arcs_do_not_meet at_ring) (Ok (joined uses))

-- a ring of distinct positions begins at its least one
abbrev pub distinct : RingAt → List Position → Option Position → Result (List Position) Fault
distinct at_ring ring None = Ok (canonical ring)
distinct at_ring ring (Some p) = Err (ring_repeats at_ring p)

-- a walk of at least three positions, of which none stood before (RFC 7946, 3.1.6)
abbrev pub simple : RingAt → List Position → Result (List Position) Fault
simple at_ring walk =
    demand (nat_le 3 (length walk)) (ring_short at_ring)
    (distinct at_ring walk (first_repeat [] walk))

-- a ring: a walk that is simple
unfoldable pub ring_of : RingAt → List Arc → Result (List Position) Fault
ring_of at_ring uses = do
  walk ← walk_of at_ring uses
  simple at_ring walk

-- a ring, or a walk
abbrev pub closed_of : Closed → RingAt → List Arc → Result (List Position) Fault
closed_of Rings at_ring uses = ring_of at_ring uses
closed_of Walks at_ring uses = walk_of at_ring uses

-- those of a polygon, of a feature, and of all features
unfoldable pub polygon_of : Closed → ℕ → ℕ → List (List Arc) → Result (List (List Position)) Fault
polygon_of closed f p rings =
    each_at (λ r. closed_of closed (record { feature = f; polygon = p; ring = r })) 0 rings

unfoldable pub feature_of :
    Closed → ℕ → List (List (List Arc)) → Result (List (List (List Position))) Fault
feature_of closed f polygons = each_at (polygon_of closed f) 0 polygons

unfoldable pub all_rings :
    Closed → List (List (List (List Arc))) → Result (List (List (List (List Position)))) Fault
all_rings closed features = each_at (feature_of closed) 0 features
