-- What sending the text of a layer does.
use Rattle.std.specs.Prelude.{◌≡◌, ◌⊎◌, ℕ, Bool, List, ◌++◌, Result, Ok, MatchResult}
use Rattle.std.specs.Io.KnownBytes.{Appends}
use Rattle.device_io.specs.Common.{Took}
use Rattle.device_io.specs.declared.Sink as sink
use Rattle.topo_outline.specs.Common.{items_from}
use Rattle.topo_reader.specs.Common.{document_of, IsFault, Opened, Opens}
use Rattle.ring_machine.specs.Common.{Text}
use Rattle.geo_features.specs.Style.{Style}
use Rattle.geo_text.specs.Wants.{Wants}
use Rattle.geo_features.specs.Faults.{GeoFault, ◌>>=◌}
use Rattle.geo_text.specs.Items.{begin_at, items_text}
use Rattle.geo_text.specs.Layer.{front_of}
use Rattle.geo_text.specs.Found.{FoundText, head_of_pieces, head_or_none, inside_pieces}
use Rattle.geo_text.specs.Places.{placed}
use Rattle.geo_features.specs.Gives.{IsGeoFault, IsSendFault, of_device}
use Rattle.geo_text.specs.Text.{geo_text}
use Rattle.geo_features.specs.declared.fault.ExportFault.{ExportFault}
use Rattle.geo_features.specs.declared.fault.ExportFault.TheVariants as fault

-- the sink took the text that is defined, and works
pub record TookAll {W : Type 0} (its : sink.Ghosts W) (old new : W) (r : Result Text GeoFault) : Type 0 where
  pub text : Text
  pub is : r ≡ Ok text
  pub took : Took its old new text

-- the sink took some bytes, the fault is the one defined, and the sink has failed exactly where the fault is its own
pub record TookSome {W : Type 0} (its : sink.Ghosts W) (old new : W) (e : ExportFault) (r : Result Text GeoFault)
    : Type 0 where
  pub some : List ℕ
  pub taken : Appends (its.taken old) (its.taken new) some
  pub fault : IsSendFault e r
  pub stands : its.has_failed new ≡ of_device e

-- a call sends the text that is defined, or has the fault that is
abbrev pub SendsGiven : {W T : Type 0} → sink.Ghosts W → W → W → Result T ExportFault → Result Text GeoFault → Type 0
SendsGiven its old new result r =
    MatchResult result (λ _. TookAll its old new r) (λ e. TookSome its old new e r)

-- the text of a layer that was found, by its pieces and the polygons of all features
abbrev pub layer_text : Style → Bool → FoundText → Opened → Result Text GeoFault
layer_text s flattens found o = do
  front ← front_of found.layer.name (head_or_none (head_of_pieces found.layer.pieces)) o.members
  rest ← items_text flattens s (begin_at found.points) (items_from found.leaves o.polygons (inside_pieces found.layer.pieces))
  Ok (front ++ rest)

-- ---- from the bytes of a map

-- the bytes are a map, the sink took the text that is asked for of it, and works
pub record IsSent {W : Type 0} (its : sink.Ghosts W) (wants : Wants) (bytes : List ℕ) (old new : W) : Type 0 where
  pub map : Opened
  pub opens : Opens bytes map
  pub sent : TookAll its old new (geo_text wants (document_of map))

-- the bytes are a map, and this is why the layer that is asked for is not written; its places are those of the map's text
pub record IsUnwritten (wants : Wants) (bytes : List ℕ) (e : ExportFault) : Type 0 where
  pub map : Opened
  pub opens : Opens bytes map
  pub fault : IsGeoFault e (placed bytes (geo_text wants (document_of map)))

-- the bytes are no map, or the layer is not written; a device may fail at any time, and so may an allocation
abbrev pub IsRefused : Wants → List ℕ → ExportFault → Type 0
IsRefused wants bytes (fault.Open f) = IsFault bytes f ⊎ IsUnwritten wants bytes (fault.Open f)
IsRefused wants bytes fault.Device = Unit {0}
IsRefused wants bytes e = IsUnwritten wants bytes e
