-- What is true of every map that is kept.
use Rattle.std.specs.Prelude.{ℕ, ◌≡◌, ◌≤◌, ◌↔◌, List, Some, is_some, IsTrue, Contains}
use Rattle.std.specs.FinMap as table
use Rattle.std.specs.FinSet as set
use Rattle.grid_geometry.specs.Common.{Segment}
use Rattle.ring_machine.specs.Common.{Document, rings, size, is_segment, Proper, are_distinct, WellFormed}
use Rattle.topo_outline.specs.Common.{KeepsTexts}
use Rattle.vertex_index.specs.Common.{AreDistinct}
use Rattle.segment_index.specs.Common.{SegmentSet}
use Rattle.arc_tables.specs.Common.{Edge, begins}
use Rattle.ring_store.specs.Common.{GoesRound}
use Rattle.feature_exchange.specs.Stored.{Stored, stored_document}

-- an edge of ring r begins at the vertex with key k
abbrev pub Visits : Stored → ℕ → ℕ → Type 0
Visits s r k = (es : List Edge) × (table.get s.rings r ≡ Some es) × Contains (begins es) k

-- the three tables belong together
pub record IsWhole (s : Stored) : Type 0 where
  -- the frame names each ring that is kept, and once
  pub named : (r : ℕ) → Contains (rings s.frame) r ↔ IsTrue (is_some (table.get s.rings r))
  pub once : IsTrue (are_distinct (rings s.frame))
  pub round : (r : ℕ) (es : List Edge) → table.get s.rings r ≡ Some es → GoesRound es
  -- vertices are those that rings pass, each at a position of its own
  pub placed : (r k : ℕ) → Visits s r k → IsTrue (table.contains_key s.places k)
  pub passed : (k : ℕ) → IsTrue (table.contains_key s.places k) → (r : ℕ) × Visits s r k
  pub distinct : AreDistinct s.places

-- an index holds the segments of the document
abbrev pub IsIndexed : Document → SegmentSet → Type 0
IsIndexed d held = (t : Segment) → set.contains held t ≡ is_segment d t

-- the map: its tables belong together, its frame is well formed and has texts that opening would
-- keep, its document is proper and within the limit, and the index holds the document's segments
pub record Holds (s : Stored) (held : SegmentSet) : Type 0 where
  pub whole : IsWhole s
  pub formed : WellFormed s.frame
  pub keeps : KeepsTexts s.frame
  pub proper : Proper (stored_document s)
  pub small : size (stored_document s) ≤ 4000000
  pub indexed : IsIndexed (stored_document s) held
