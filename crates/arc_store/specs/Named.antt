-- The rings of a segment by their names: the feature, the polygon and the place of each.
use Rattle.std.specs.Prelude.{ℕ, ◌≡◌, ◌++◌, ◌↔◌, List, Some, slice_get, map, Contains, IsTrue}
use Rattle.std.specs.List.{list_any}
use Rattle.grid_geometry.specs.Common.{Position, Segment, segment_eq}
use Rattle.ring_machine.specs.Common.{DocumentOf, Document, segments}
use Rattle.map_frame.specs.declared.names.RingName.{RingName}
use Rattle.map_frame.specs.Common.{number_at, frame_ring}

-- what was appended are the names of the rings with these numbers, in order
pub record ListsNames (d : DocumentOf ℕ) (numbers : List ℕ) (old new : List RingName) : Type 0 where
  pub found : List RingName
  pub appended : new ≡ old ++ found
  pub are : map (number_at d) found ≡ map Some numbers

-- the ring with this name has the segment
pub record RingHas (d : Document) (s : Segment) (name : RingName) : Type 0 where
  pub positions : List Position
  pub there : frame_ring d name.feature name.polygon name.ring ≡ Some positions
  pub has : IsTrue (list_any (segment_eq s) (segments positions))

-- no element stands at two places
abbrev pub AreOnce : {X : Type 0} → List X → Type 0
AreOnce {X} xs = (i j : ℕ) (x : X) → slice_get xs i ≡ Some x → slice_get xs j ≡ Some x → i ≡ j

-- what was appended are the rings that have the segment, each once
pub record ListsRings (d : Document) (s : Segment) (old new : List RingName) : Type 0 where
  pub found : List RingName
  pub appended : new ≡ old ++ found
  pub all : (name : RingName) → Contains found name ↔ RingHas d s name
  pub once : AreOnce found
