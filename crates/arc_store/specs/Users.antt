-- The rings that have a segment of some edges.
use Rattle.std.specs.Prelude.{◌≡◌, ◌++◌, ◌↔◌, List, Contains}
use Rattle.grid_geometry.specs.Common.{Edge, segment}
use Rattle.ring_machine.specs.Common.{Document}
use Rattle.map_frame.specs.declared.names.RingName.{RingName}
use Rattle.arc_store.specs.Named.{RingHas}

-- the ring with this name has the segment of one of these edges
pub record HasOne (d : Document) (es : List Edge) (name : RingName) : Type 0 where
  pub edge : Edge
  pub there : Contains es edge
  pub has : RingHas d (segment edge.0 edge.1) name

-- what was appended are the rings that have the segment of one of these edges, and no others
pub record ListsRingNames (d : Document) (es : List Edge) (old new : List RingName) : Type 0 where
  pub found : List RingName
  pub appended : new ≡ old ++ found
  pub all : (name : RingName) → Contains found name ↔ HasOne d es name
