-- What a fault says.
use Rattle.std.specs.Prelude.{Option, Some, ◌≡◌}
use Rattle.grid_geometry.specs.Common.{Segment}
use Rattle.ring_machine.specs.Common.{Refusal}
use Rattle.ring_machine.specs.Command as machine
use Rattle.arc_store.specs.declared.fault.BuildFault.{BuildFault}
use Rattle.arc_store.specs.declared.fault.BuildFault.TheVariants as build
use Rattle.arc_store.specs.declared.fault.EditFault.{EditFault}
use Rattle.arc_store.specs.declared.fault.EditFault.TheVariants as edit

-- the fault names the refusal; allocation failure says nothing
abbrev pub Refuses : EditFault → Option Refusal → Type 0
Refuses edit.NoFeature refusal = refusal ≡ Some machine.NoFeature
Refuses edit.NoCollection refusal = refusal ≡ Some machine.NoCollection
Refuses edit.NotOnOuterRing refusal = refusal ≡ Some machine.NotOnOuterRing
Refuses edit.RepeatedPoint refusal = refusal ≡ Some machine.RepeatedPoint
Refuses edit.NoVertex refusal = refusal ≡ Some machine.NoVertex
Refuses edit.NoSegment refusal = refusal ≡ Some machine.NoSegment
Refuses edit.Occupied refusal = refusal ≡ Some machine.Occupied
Refuses edit.Junction refusal = refusal ≡ Some machine.Junction
Refuses edit.RingShort refusal = refusal ≡ Some machine.RingShort
Refuses edit.SegmentExists refusal = refusal ≡ Some machine.SegmentExists
Refuses edit.TooLarge refusal = refusal ≡ Some machine.TooLarge
Refuses (edit.Conflict s t) refusal = refusal ≡ Some (machine.Conflict s t)
Refuses edit.WrongSide refusal = refusal ≡ Some machine.WrongSide
Refuses edit.SameFeature refusal = refusal ≡ Some machine.SameFeature
Refuses edit.NotOnePolygon refusal = refusal ≡ Some machine.NotOnePolygon
Refuses edit.NotNeighbours refusal = refusal ≡ Some machine.NotNeighbours
Refuses (edit.Runs n) refusal = refusal ≡ Some (machine.Runs n)
Refuses (edit.CommonElse p) refusal = refusal ≡ Some (machine.CommonElse p)
Refuses edit.SameSide refusal = refusal ≡ Some machine.SameSide
Refuses edit.Sweeps refusal = refusal ≡ Some machine.Sweeps
Refuses edit.OutOfMemory refusal = Unit {0}

-- the fault names the pair of segments in conflict; allocation failure says nothing
abbrev pub Names : BuildFault → Option (Segment × Segment) → Type 0
Names (build.Conflict s t) pair = pair ≡ Some (s, t)
Names build.OutOfMemory pair = Unit {0}
