-- Why there is no report.
use Rattle.std.specs.Prelude.{◌≡◌, false, true, ℕ, List}
use Rattle.layer_faces.specs.declared.fault.FaceFault.{FaceFault}
use Rattle.layer_faces.specs.declared.fault.FaceFault.TheVariants as face
use Rattle.ring_machine.specs.Common.{Proper, Text}
use Rattle.topo_outline.specs.Common.{LayerText}
use Rattle.topo_outline.specs.declared.fault.OpenFault.TheVariants as open_fault
use Rattle.topo_reader.specs.Common.{IsFault, Opened, Opens, document_of}
use Rattle.cover_report.specs.Asked.{Wants}
use Rattle.cover_report.specs.Names.{are_there}
use Rattle.cover_report.specs.declared.fault.CoverFault.{CoverFault}
use Rattle.cover_report.specs.declared.fault.CoverFault.TheVariants.{Open, NoLayer, TooLarge, Unswept, Unlike}

-- why a layer was not looked at
abbrev pub of_face : FaceFault → CoverFault
of_face face.OutOfMemory = Open open_fault.OutOfMemory
of_face face.TooLarge = TooLarge
of_face (face.Unswept at) = Unswept at
of_face (face.Unlike s) = Unlike s

-- a layer could not be looked at, or an allocation failed
abbrev pub IsLookFault : CoverFault → Type 0
IsLookFault (Open fault) = fault ≡ open_fault.OutOfMemory
IsLookFault NoLayer = ⊥
IsLookFault TooLarge = Unit {0}
IsLookFault (Unswept at) = Unit {0}
IsLookFault (Unlike s) = Unit {0}

-- a name that is asked for is none of a layer, or the layers could not be looked at
abbrev pub IsUnlooked : List Text → List LayerText → CoverFault → Type 0
IsUnlooked names layers (Open fault) = fault ≡ open_fault.OutOfMemory
IsUnlooked names layers NoLayer = are_there names layers ≡ false
IsUnlooked names layers TooLarge = are_there names layers ≡ true
IsUnlooked names layers (Unswept at) = are_there names layers ≡ true
IsUnlooked names layers (Unlike s) = are_there names layers ≡ true

-- the map opens
pub record OpensProper (bytes : List ℕ) (map : Opened) : Type 0 where
  pub opens : Opens bytes map
  pub proper : Proper (document_of map)

-- the map opens, and has no layer of some name that is asked for
abbrev pub LacksLayer : Wants → List ℕ → Type 0
LacksLayer wants bytes = (map : Opened) × OpensProper bytes map × (are_there wants.layers map.layers ≡ false)

-- the map opens, and has the layers that are asked for
abbrev pub HasLayers : Wants → List ℕ → Type 0
HasLayers wants bytes = (map : Opened) × OpensProper bytes map × (are_there wants.layers map.layers ≡ true)

-- why there is no report: the map's first fault, a name of no layer, or a layer that could not be looked at
abbrev pub IsRefused : Wants → List ℕ → CoverFault → Type 0
IsRefused wants bytes (Open fault) = IsFault bytes fault
IsRefused wants bytes NoLayer = LacksLayer wants bytes
IsRefused wants bytes TooLarge = HasLayers wants bytes
IsRefused wants bytes (Unswept at) = HasLayers wants bytes
IsRefused wants bytes (Unlike s) = HasLayers wants bytes
