-- Along a ring, where borders meet.
use Rattle.std.specs.Prelude.{ℕ, ◌≡◌, Bool, true, false, List, get_or, Contains}
use Rattle.grid_geometry.specs.Common.{Position}
use Rattle.vertex_index.specs.Common.{Placement, place}
use Rattle.arc_tables.specs.Common.{Rings, begins}
use Rattle.ring_store.specs.declared.neighbours.Neighbours.{Neighbours}
use Rattle.ring_store.specs.declared.neighbours.Neighbours.TheVariants.{None, One, Two, More}
use Rattle.feature_exchange.specs.Stored.{edges_under}

-- a vertex has not exactly two neighbours
abbrev pub is_meeting : Neighbours → Bool
is_meeting (Two a b) = false
is_meeting None = true
is_meeting (One a) = true
is_meeting More = true

-- whether borders meet at the vertex of a key, by a list of where they do; after its end they do
abbrev pub meets : List Bool → ℕ → Bool
meets meetings k = get_or meetings k true

-- borders meet at the keys along a ring where their positions are such
abbrev pub MarksAlong : Placement → Rings → ℕ → List Bool → (Position → Bool) → Type 0
MarksAlong places m r meetings such =
    (k : ℕ) → Contains (begins (edges_under m r)) k → meets meetings k ≡ such (place places k)
