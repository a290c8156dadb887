-- What looking at the bytes of a map comes to.
use Rattle.std.specs.Prelude.{◌≡◌, ℕ, true, List, Option, None}
use Rattle.grid_geometry.specs.Common.{Position}
use Rattle.grid_reader.specs.Common.{grid_opening, IsTold}
use Rattle.grid_reader.specs.declared.told.Told.{Told}
use Rattle.grid_reader.specs.declared.wants.Wants.{Wants}
use Rattle.place_text.specs.Common.{IsPlaceText}
use Rattle.ring_machine.specs.Common.{Text, first_pair}
use Rattle.segment_paths.specs.Common.{PathOfSegment}
use Rattle.topo_reader.specs.Common.{Opened, document_of, OpensIn, OpensWalks, IsFaultIn}
use Rattle.topo_reader.specs.Opening as reader
use Rattle.walk_faults.specs.Common.{Found, HasMore, Opens, walks_of}
use Rattle.walk_faults.specs.declared.findings.Findings.{Findings}
use Rattle.mend_report.specs.Report.{reads_unchanged}
use Rattle.mend_report.specs.declared.asked.Asked.{Asked}
use Rattle.mend_report.specs.declared.looking.LookFault.{LookFault}
use Rattle.mend_report.specs.declared.looking.LookFault.TheVariants.{Open, TooMany, OutOfMemory}

-- a topology with this transform
abbrev pub under : Option Text → Opened → Opened
under t o = record o { transform = t }

-- on the grid that is asked for, the bytes are this topology, with walks in the place of rings
abbrev pub OpensOn : Wants → List ℕ → Opened → Type 0
OpensOn wants bytes o = OpensIn (grid_opening wants) bytes o

-- the bytes are a topology with walks, and these are all findings in it
abbrev pub Looked : {A : Type 0} → Wants → List ℕ → Findings A → Type 0
Looked wants bytes findings = (o : Opened) × OpensOn wants bytes o × Found o.polygons findings

-- the text has the places of these findings in the topology with walks that the bytes are, and these
-- paths, if they are reported
abbrev pub HasPlaces : {A : Type 0}
    → Wants → List ℕ → Findings A → Option (List PathOfSegment) → List ℕ → Type 0
HasPlaces wants bytes findings paths text =
    (o : Opened) × OpensOn wants bytes o × IsPlaceText o.transform o.polygons findings paths text

-- no line was left out, and the bytes are a topology whose coordinates are written as whole numbers,
-- two a position; on the grid that is asked for each walk is a linear ring, and no two segments conflict
abbrev pub MapOpens : Asked → List ℕ → Type 0
MapOpens asked bytes =
    (o : Opened) × (grid : Told) × OpensOn asked.grid bytes o × IsTold asked.grid bytes grid
    × (reads_unchanged grid ≡ true) × (asked.dropped ≡ 0) × Opens o.polygons

-- the editor opens the map: its bytes are a topology of rings, no two of whose segments conflict
abbrev pub EditorOpens : List ℕ → Type 0
EditorOpens bytes = (p : Opened) × reader.Opens bytes p × (first_pair (document_of p) ≡ None)

-- the bytes are a topology of whole numbers, with walks in the place of rings, as the editor reads it
abbrev pub HasWalks : List ℕ → Type 0
HasWalks bytes = (o : Opened) × OpensWalks bytes o

-- of some kind there are more findings in the topology that the bytes are than can be listed
abbrev pub AreTooMany : Wants → List ℕ → Type 0
AreTooMany wants bytes =
    (o : Opened) × OpensOn wants bytes o × HasMore 4000000 (walks_of o.polygons)

-- the first fault of the bytes as a topology with walks, too many findings, or a failed allocation
abbrev pub IsEnd : LookFault → Wants → List ℕ → Type 0
IsEnd (Open fault) wants bytes = IsFaultIn (grid_opening wants) bytes fault
IsEnd TooMany wants bytes = AreTooMany wants bytes
IsEnd OutOfMemory wants bytes = Unit {0}

-- why a map that was read was not looked through
abbrev pub EndsLook : LookFault → List (List (List (List Position))) → Type 0
EndsLook (Open fault) polygons = ⊥
EndsLook TooMany polygons = HasMore 4000000 (walks_of polygons)
EndsLook OutOfMemory polygons = Unit {0}
