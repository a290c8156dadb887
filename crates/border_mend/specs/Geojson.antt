-- A map that is a GeoJSON object (RFC 7946, 3): the topology that is looked at in its place, and where its file has
-- a place of that.
use Rattle.std.specs.Prelude.{◌≡◌, ℕ, Bool, true, false, List, [], ◌++◌, drop, codes, nat_eq, if◌then◌else◌, Option, Some, None, unwrap_or, Result, Ok, Err, map}
use Rattle.std.specs.List.{starts_with}
use Rattle.json_spans.specs.Common.{Node}
use Rattle.topo_outline.specs.Common.{Fault, Fails, ◌>>=◌}
use Rattle.topo_outline.specs.declared.fault.OpenFault.{OpenFault}
use Rattle.topo_outline.specs.declared.fault.OpenFault.TheVariants as open_fault
use Rattle.geo_topology.specs.Object.{geo_object}
use Rattle.geo_topology.specs.Places.{in_file}
use Rattle.geo_topology.specs.Text.{MadeOf, CopiedPart, topology_made}
use Rattle.geo_topology.specs.Views.{view_made, view_part}
use Rattle.geo_topology.specs.declared.object.GeoObject.{GeoObject}
use Rattle.mend_report.specs.declared.looking.LookFault.{LookFault}
use Rattle.mend_report.specs.declared.looking.LookFault.TheVariants as look
use Rattle.mend_report.specs.declared.repair_fault.RepairFault.{RepairFault}
use Rattle.mend_report.specs.declared.repair_fault.RepairFault.TheVariants as repair
use Rattle.border_mend.specs.declared.geojson.Source.{Source}
use Rattle.border_mend.specs.declared.geojson.Source.TheVariants as source

-- ---- the text that is looked at

-- the topology that a value becomes which is this object, and none where it is no object of GeoJSON
abbrev pub object_made : Node → Option GeoObject → Result (Option MadeOf) Fault
object_made root None = Ok None
object_made root (Some object) = topology_made object root >>= λ made. Ok (Some made)

-- the topology that the root of a text becomes, told by its `type`, or its first fault
abbrev pub root_made : Node → Result (Option MadeOf) Fault
root_made root = object_made root (geo_object root)

-- the topology that a map becomes
abbrev pub made_in : Source → Option MadeOf
made_in source.Own = None
made_in (source.GeoJson made) = Some (view_made made)

-- the code's answer is the one defined, or its fault is
abbrev pub Makes : Result Source LookFault → Result (Option MadeOf) Fault → Type 0
Makes (Ok from) r = r ≡ Ok (made_in from)
Makes (Err (look.Open fault)) r = Fails fault r
Makes (Err look.TooMany) r = ⊥
Makes (Err look.OutOfMemory) r = Unit {0}

-- what is looked at: the text of the topology, or the map's own
abbrev pub text_asked : List ℕ → Option MadeOf → List ℕ
text_asked own None = own
text_asked own (Some made) = made.text

abbrev pub is_geojson : Source → Bool
is_geojson source.Own = false
is_geojson (source.GeoJson made) = true

-- ---- places

-- the parts of the text that are copies of others of the file
abbrev pub parts_of : Source → List CopiedPart
parts_of source.Own = []
parts_of (source.GeoJson made) = map view_part made.parts.items

-- where the file has a place of the text: as a copied part has it
abbrev pub place_in_file : List CopiedPart → ℕ → ℕ
place_in_file parts place = unwrap_or (in_file parts place) place

-- the fault of the text, at its place in the file
abbrev pub fault_in_file : List CopiedPart → OpenFault → OpenFault
fault_in_file parts (open_fault.NotJson place) = open_fault.NotJson (place_in_file parts place)
fault_in_file parts (open_fault.TooDeep place) = open_fault.TooDeep (place_in_file parts place)
fault_in_file parts (open_fault.NotWhole place) = open_fault.NotWhole (place_in_file parts place)
fault_in_file parts (open_fault.OutOfRange place) = open_fault.OutOfRange (place_in_file parts place)
fault_in_file parts (open_fault.BadPosition place) = open_fault.BadPosition (place_in_file parts place)
fault_in_file parts (open_fault.BadArcIndex place) = open_fault.BadArcIndex (place_in_file parts place)
fault_in_file parts fault = fault

abbrev pub look_in_file : List CopiedPart → LookFault → LookFault
look_in_file parts (look.Open fault) = look.Open (fault_in_file parts fault)
look_in_file parts fault = fault

abbrev pub repair_in_file : List CopiedPart → RepairFault → RepairFault
repair_in_file parts (repair.Look fault) = repair.Look (look_in_file parts fault)
repair_in_file parts fault = fault

-- ---- the report

-- a report without the line of a map that opens as it is, its first
abbrev pub without_opens : List ℕ → List ℕ
without_opens report =
    if starts_with nat_eq report (codes "opens\n") then drop 6 report else report

-- the report of a map: that of a GeoJSON object begins with "geojson"
abbrev pub told_report : Bool → List ℕ → List ℕ
told_report false report = report
told_report true report = codes "geojson\n" ++ without_opens report
