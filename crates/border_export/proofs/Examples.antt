-- What words ask for, and how an export ends, worked out.
use Rattle.kit_words.proofs.Common.{◌≡◌, refl, true, [], ◌∷◌, List, ℕ, Some, None, Result, Err, codes}
use Rattle.clap.specs.Words.{Text, first_of, is_simple, matches_of, one_of}
use Rattle.clap.proofs.OnLiterals.{clap_on_literals}
use Rattle.topo_outline.specs.declared.fault.OpenFault.TheVariants as map_fault
use Rattle.geo_features.specs.declared.fault.ExportFault.{ExportFault}
use Rattle.geo_features.specs.declared.fault.ExportFault.TheVariants as fault
use Rattle.border_export.specs.Asked.{export_program}
use Rattle.border_export.specs.Endings.{TellsFault}
use Rattle.border_export.specs.Status.{export_status}

-- border_export map.json --layer land --out a.geojson --flatten --winding keep
abbrev words : List Text
words = codes "border_export" ∷ codes "map.json" ∷ codes "--layer" ∷ codes "land" ∷ codes "--out" ∷ codes "a.geojson"
    ∷ codes "--flatten" ∷ codes "--winding" ∷ codes "keep" ∷ []

simple : is_simple export_program ≡ true
simple = refl

map : first_of (codes "MAP") (matches_of export_program words) ≡ Some (codes "map.json")
unfolding clap_on_literals
map = refl

out : first_of (codes "out") (matches_of export_program words) ≡ Some (codes "a.geojson")
unfolding clap_on_literals
out = refl

layer : first_of (codes "layer") (matches_of export_program words) ≡ Some (codes "land")
unfolding clap_on_literals
layer = refl

decimals : first_of (codes "decimals") (matches_of export_program words) ≡ None
unfolding clap_on_literals
decimals = refl

winding : first_of (codes "winding") (matches_of export_program words) ≡ Some (codes "keep")
unfolding clap_on_literals
winding = refl

flatten : one_of (codes "flatten") (matches_of export_program words) ≡ Some (codes "true")
unfolding clap_on_literals
flatten = refl

-- ---- statuses

-- an export has this fault
abbrev unwritten : ExportFault → Result ℕ ExportFault
unwritten e = Err e

too_few : export_status (unwritten (fault.FewDecimals 3 4)) ≡ 2
too_few = refl

deep : export_status (unwritten (fault.Open (map_fault.TooDeep 7))) ≡ 2
deep = refl

no_memory : export_status (unwritten (fault.Open map_fault.OutOfMemory)) ≡ 3
no_memory = refl

no_room : export_status (unwritten fault.Device) ≡ 3
no_room = refl

no_line : TellsFault fault.NoLayer None
no_line = refl
