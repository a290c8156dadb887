-- What an edit plans: the vertices around one, the segments to them, and what an index gains and
-- loses.
use Rattle.std.specs.Prelude.{◌≡◌, ℕ, true, false, not, ◌&&◌, ◌||◌, ◌↔◌, List, map, Contains}
use Rattle.std.specs.FinMap as table
use Rattle.std.specs.FinSet as set
use Rattle.grid_geometry.specs.Common.{Position, Segment, segment}
use Rattle.ring_machine.specs.Common.{are_distinct}
use Rattle.vertex_index.specs.Common.{Placement, place}
use Rattle.segment_index.specs.Common.{SegmentSet, has}
use Rattle.arc_tables.specs.Common.{Rings}
use Rattle.ring_store.specs.Joined.{Joined}

-- each vertex that is joined to k is kept
abbrev pub ArePlaced : Placement → Rings → ℕ → Type 0
ArePlaced places m k = (x : ℕ) → Joined m k x → table.contains_key places x ≡ true

-- the positions of the vertices that are joined to k, each vertex once
pub record AreAround (places : Placement) (m : Rings) (k : ℕ) (around : List Position) : Type 0 where
  pub keys : List ℕ
  pub joined : (x : ℕ) → Contains keys x ↔ Joined m k x
  pub once : are_distinct keys ≡ true
  pub are : around ≡ map (place places) keys

-- the segments from these positions to p
abbrev pub spokes : Position → List Position → List Segment
spokes p around = map (λ x. segment x p) around

-- none of these is held
abbrev pub AreNew : SegmentSet → List Segment → Type 0
AreNew held ss = (t : Segment) → has ss t ≡ true → set.contains held t ≡ false

-- an index came to hold these too
abbrev pub GainsSegments : SegmentSet → List Segment → SegmentSet → Type 0
GainsSegments old ss new = (t : Segment) → set.contains new t ≡ (set.contains old t || has ss t)

-- an index holds these no more
abbrev pub Drops : SegmentSet → List Segment → SegmentSet → Type 0
Drops old ss new = (t : Segment) → set.contains new t ≡ (set.contains old t && not (has ss t))

-- the added ones came, and the others went
abbrev pub Exchanges : SegmentSet → List Segment → List Segment → SegmentSet → Type 0
Exchanges old added gone new =
    (t : Segment) → set.contains new t ≡ ((set.contains old t || has added t) && not (has gone t))
