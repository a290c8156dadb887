-- A map's tables as its callers see them, and what is true of them.
use Rattle.std.specs.Prelude.{ℕ, ◌≡◌, Bool, List, Option}
use Rattle.edit_records.specs.Common.{Record}
use Rattle.ring_machine.specs.Common.{size}
use Rattle.segment_index.specs.Common.{SegmentSet}
use Rattle.segment_index.specs.Frames.{Frame as GridFrame}
use Rattle.vertex_index.specs.Common.{Placement}
use Rattle.arc_tables.specs.Common.{Rings}
use Rattle.ring_store.specs.declared.neighbours.Neighbours.{Neighbours}
use Rattle.ring_store.specs.Common.{AreNeighbours}
use Rattle.map_frame.specs.Common.{Framed}
use Rattle.feature_exchange.specs.Common.{Stored, stored, stored_document, is_meeting, meets, IsWhole, Holds}
use Rattle.arc_store.specs.State.{State}

-- the map as its callers see it
abbrev pub state_of : Framed → Rings → Placement → ℕ → Option GridFrame → Option Record → State
state_of frame rings places tests cells last = record {
  doc = stored_document (stored frame rings places);
  next = frame.next;
  places = frame.places;
  tests = tests;
  cells = cells;
  last = last;
}

-- what is true of the tables of every map
pub record IsKept (frame : Framed) (rings : Rings) (places : Placement) (held : SegmentSet)
    (positions : ℕ) : Type 0 where
  pub holds : Holds (stored frame rings places) held
  pub sized : positions ≡ size (stored_document (stored frame rings places))

-- the tables belong together, and the list has at which vertices borders meet
pub record HasMeetings (s : Stored) (meetings : List Bool) : Type 0 where
  pub whole : IsWhole s
  pub told : (k : ℕ) → (o : Neighbours) × AreNeighbours s.rings k o × (meets meetings k ≡ is_meeting o)
