-- What the code answers, beside what is defined.
use Rattle.std.specs.Prelude.{◌≡◌, Bool, true, false, List, ◌++◌, Result, Ok, Err}
use Rattle.topo_outline.specs.Common.{Fault, Fails}
use Rattle.topo_outline.specs.declared.fault.OpenFault.{OpenFault}
use Rattle.topo_outline.specs.declared.fault.OpenFault.TheVariants as map_fault
use Rattle.geo_features.specs.Faults.{GeoFault, of_map, no_layer, several_layers, few_decimals, nested, point_not_whole, point_out_of_range, ◌>>=◌}
use Rattle.geo_features.specs.declared.fault.ExportFault.{ExportFault}
use Rattle.geo_features.specs.declared.fault.ExportFault.TheVariants as fault

-- a fault of the map is the one defined; allocation failure may come in the place of any answer
abbrev pub IsMapFault : {Y : Type 0} → OpenFault → Result Y GeoFault → Type 0
IsMapFault map_fault.OutOfMemory r = Unit {0}
IsMapFault f r = (g : Fault) × Fails {Y = Fault} f (Err g) × (r ≡ Err (of_map g))

-- the code's fault is the one defined
abbrev pub IsGeoFault : {Y : Type 0} → ExportFault → Result Y GeoFault → Type 0
IsGeoFault (fault.Open f) r = IsMapFault f r
IsGeoFault fault.NoLayer r = r ≡ Err no_layer
IsGeoFault fault.SeveralLayers r = r ≡ Err several_layers
IsGeoFault (fault.FewDecimals asked least) r = r ≡ Err (few_decimals asked least)
IsGeoFault (fault.Nested feature) r = r ≡ Err (nested feature)
IsGeoFault (fault.PointNotWhole point place) r = r ≡ Err (point_not_whole point place)
IsGeoFault (fault.PointOutOfRange point place) r = r ≡ Err (point_out_of_range point place)
IsGeoFault fault.Device r = ⊥

-- the same, of a call that sends: a device may fail at any time
abbrev pub IsSendFault : {Y : Type 0} → ExportFault → Result Y GeoFault → Type 0
IsSendFault fault.Device r = Unit {0}
IsSendFault e r = IsGeoFault e r

-- the code's answer, seen by the view, is the one defined, or its fault is
abbrev pub Gives : {X Y : Type 0} → (X → Y) → Result X ExportFault → Result Y GeoFault → Type 0
Gives view (Ok x) r = r ≡ Ok (view x)
Gives view (Err e) r = IsGeoFault e r

-- what is defined was put after the old text, or the fault is the one defined
abbrev pub Appends : {X A : Type 0} → List A → List A → Result X ExportFault → Result (List A) GeoFault → Type 0
Appends old new (Ok x) r = (r >>= λ xs. Ok (old ++ xs)) ≡ Ok new
Appends old new (Err e) r = IsGeoFault e r

-- whether a fault is the device's own
abbrev pub of_device : ExportFault → Bool
of_device fault.Device = true
of_device e = false
