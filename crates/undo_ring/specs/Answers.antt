-- The answers and the faults of the code as the machine's.
use Rattle.std.specs.Prelude.{Option, Some, None}
use Rattle.ring_machine.specs.Command.{Answer as Answered, Refusal}
use Rattle.ring_machine.specs.Command as machine
use Rattle.arc_store.specs.declared.fault.EditFault.{EditFault}
use Rattle.arc_store.specs.declared.fault.EditFault.TheVariants.{NoFeature, NoVertex, NoSegment, Occupied, Junction, RingShort, SegmentExists, NoCollection, NotOnOuterRing, RepeatedPoint, WrongSide, TooLarge, SameFeature, NotOnePolygon, NotNeighbours, Runs, CommonElse, SameSide, Conflict, Sweeps, OutOfMemory}
use Rattle.undo_ring.specs.declared.answer.Answer.{Answer}
use Rattle.undo_ring.specs.declared.answer.Answer.TheVariants.{Done, Thinned, Made, Area, At, Neighbours}

abbrev pub answer_of : {A : Type 0} → Answer A → Answered
answer_of Done = machine.Done
answer_of (Thinned n) = machine.Thinned n
answer_of (Made n) = machine.Made n
answer_of (Area z) = machine.AreaIs z
answer_of (At at) = machine.AtIs at.inside at.border
answer_of (Neighbours ns) = machine.NeighboursAre ns

-- the refusal that a fault is; allocation failure is none
abbrev pub refusal_of : EditFault → Option Refusal
refusal_of NoFeature = Some machine.NoFeature
refusal_of NoVertex = Some machine.NoVertex
refusal_of NoSegment = Some machine.NoSegment
refusal_of Occupied = Some machine.Occupied
refusal_of Junction = Some machine.Junction
refusal_of RingShort = Some machine.RingShort
refusal_of SegmentExists = Some machine.SegmentExists
refusal_of NoCollection = Some machine.NoCollection
refusal_of NotOnOuterRing = Some machine.NotOnOuterRing
refusal_of RepeatedPoint = Some machine.RepeatedPoint
refusal_of WrongSide = Some machine.WrongSide
refusal_of TooLarge = Some machine.TooLarge
refusal_of SameFeature = Some machine.SameFeature
refusal_of NotOnePolygon = Some machine.NotOnePolygon
refusal_of NotNeighbours = Some machine.NotNeighbours
refusal_of (Runs n) = Some (machine.Runs n)
refusal_of (CommonElse p) = Some (machine.CommonElse p)
refusal_of SameSide = Some machine.SameSide
refusal_of (Conflict s t) = Some (machine.Conflict s t)
refusal_of Sweeps = Some machine.Sweeps
refusal_of OutOfMemory = None
