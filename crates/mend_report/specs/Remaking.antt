-- What mending the bytes of a map comes to.
use Rattle.std.specs.Prelude.{◌≡◌, ℕ, List, ◌++◌, Option, Some, Vec, IfSome}
use Rattle.ring_machine.specs.Common.{Document, Proper, canonical, in_rings}
use Rattle.topo_reader.specs.Common.{Opened, document_of, ReadsWalks}
use Rattle.grid_reader.specs.Common.{ReadsOnGrid, IsTold}
use Rattle.grid_reader.specs.declared.told.Told.{Told}
use Rattle.grid_reader.specs.declared.wants.Wants.{Wants}
use Rattle.walk_faults.specs.Common.{Found}
use Rattle.walk_faults.specs.declared.findings.Findings.{Findings}
use Rattle.place_text.specs.Common.{IsPlaceText}
use Rattle.map_text.specs.Common.{Saved, text_of}
use Rattle.map_mending.specs.Common.{changes_from}
use Rattle.segment_paths.specs.Common.{paths_seen}
use Rattle.map_mending.specs.Common.{MendedBy, IsMendFault, NeedsNoMending, Mended, TellsPartedIn, polygons_by_feature, VerticesStay, AllStayNear}
use Rattle.mend_report.specs.Opens.{OpensAgain}
use Rattle.mend_report.specs.Faults.{IsMendedUnsaved}
use Rattle.mend_report.specs.Looking.{OpensOn, IsEnd, EndsLook}
use Rattle.mend_report.specs.Report.{mended_report}
use Rattle.mend_report.specs.declared.asked.Asked.{Asked}
use Rattle.mend_report.specs.declared.remaking.Remade.{Remade}
use Rattle.mend_report.specs.declared.repair_fault.RepairFault.{RepairFault}
use Rattle.mend_report.specs.declared.repair_fault.RepairFault.TheVariants.{Look, Mend, Save}

-- a document of walks is mended by these paths to a proper one, which is the same where that needs no
-- mending, keeps its vertices and stays near it; what was taken apart is reported, and how areas
-- change, and the text keeps the document and opens as it
pub record IsRemade {A : Type 0} (d : Document) (remade : Remade A) : Type 0 where
  pub document : Document
  pub mended : Mended (paths_seen remade.paths.items) d document
  pub by : MendedBy d (paths_seen remade.paths.items)
  pub parts : TellsPartedIn (paths_seen remade.paths.items) d document remade.parted.items
  pub areas : remade.areas.items
      ≡ changes_from (paths_seen remade.paths.items) 0 (polygons_by_feature d) (polygons_by_feature document)
  pub stays : NeedsNoMending d → document ≡ in_rings canonical d
  pub vertices : VerticesStay (paths_seen remade.paths.items) d document
  pub near : AllStayNear (paths_seen remade.paths.items) d document
  pub proper : Proper document
  pub text : remade.text.items ≡ text_of document
  pub saved : Saved remade.text.items document
  pub opens : OpensAgain remade.text.items document

-- on the grid that is asked for, the bytes mean a document of walks, and that is mended
abbrev pub Remakes : {A : Type 0} → Wants → List ℕ → Remade A → Type 0
Remakes wants bytes remade = (d : Document) × ReadsOnGrid wants bytes d × IsRemade d remade

-- the bytes mean a document of walks, as the editor reads it, and that is mended
abbrev pub RemakesWhole : {A : Type 0} → List ℕ → Remade A → Type 0
RemakesWhole bytes remade = (d : Document) × ReadsWalks bytes d × IsRemade d remade

-- the report tells the grid, all that is found in a map, and what was done about it
abbrev pub TellsRemade : {A : Type 0}
    → ℕ → ℕ → Opened → Told → Remade A → List ℕ → List ℕ → Type 0
TellsRemade {A} most dropped o grid remade before after =
    (found : Findings A) × Found o.polygons found
    × (after ≡ before ++ mended_report most grid dropped found (paths_seen remade.paths.items)
    remade.parted.items remade.areas.items)

-- the same of the map that the bytes are
abbrev pub TellsMending : {A : Type 0}
    → Asked → List ℕ → Remade A → List ℕ → List ℕ → Type 0
TellsMending asked bytes remade before after =
    (o : Opened) × (grid : Told) × OpensOn asked.grid bytes o × IsTold asked.grid bytes grid
    × TellsRemade asked.most asked.dropped o grid remade before after

-- the places, where they are asked for, are those of all that is found in a map, and the paths
abbrev pub PlacesRemade : {A : Type 0} → Opened → Remade A → Option (Vec ℕ A) → Type 0
PlacesRemade {A} o remade places =
    IfSome places (λ text. (found : Findings A) × Found o.polygons found
    × IsPlaceText o.transform o.polygons found (Some (paths_seen remade.paths.items)) text.items)

-- the same of the map that the bytes are
abbrev pub PlacesMending : {A : Type 0}
    → Wants → List ℕ → Remade A → Option (Vec ℕ A) → Type 0
PlacesMending wants bytes remade places =
    (o : Opened) × OpensOn wants bytes o × PlacesRemade o remade places

-- why a map is not mended: where it was not looked through, as that ends; else as mending the document
-- of walks that the bytes mean ends, or as saving ends what that is mended to
abbrev pub IsMendEnd : RepairFault → Wants → List ℕ → Type 0
IsMendEnd (Look fault) wants bytes = IsEnd fault wants bytes
IsMendEnd (Mend fault) wants bytes =
    (d : Document) × ReadsOnGrid wants bytes d × IsMendFault d fault
IsMendEnd (Save fault) wants bytes =
    (d : Document) × ReadsOnGrid wants bytes d × IsMendedUnsaved d fault

-- why a map that was read is not mended
abbrev pub EndsMending : RepairFault → Opened → Type 0
EndsMending (Look fault) o = EndsLook fault o.polygons
EndsMending (Mend fault) o = IsMendFault (document_of o) fault
EndsMending (Save fault) o = IsMendedUnsaved (document_of o) fault
