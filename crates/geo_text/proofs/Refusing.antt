-- Why a map is not written, where no place is of a point's own text.
use Rattle.kit_words.proofs.Common.{◌≢◌, List, ℕ, Result, ap, refl, inr}
use Rattle.topo_outline.specs.declared.fault.OpenFault.{OpenFault}
use Rattle.topo_outline.specs.declared.fault.OpenFault.TheVariants as map_fault
use Rattle.topo_reader.specs.Common.{Opened, Opens, document_of}
use Rattle.ring_machine.specs.Common.{Text}
use Rattle.geo_features.specs.declared.fault.ExportFault.{ExportFault}
use Rattle.geo_features.specs.declared.fault.ExportFault.TheVariants as fault
use Rattle.geo_text.specs.Exported.{IsRefused, IsUnwritten}
use Rattle.geo_features.specs.Faults.{GeoFault}
use Rattle.geo_features.specs.Gives.{IsGeoFault, IsMapFault, IsSendFault}
use Rattle.geo_text.specs.Places.{placed}
use Rattle.geo_text.specs.Text.{geo_text}
use Rattle.geo_text.specs.Wants.{Wants}

-- a fault of the map has its place already
map_placed : (bytes : List ℕ) (f : OpenFault) (r : Result Text GeoFault) → IsMapFault f r → IsMapFault f (placed bytes r)
map_placed bytes map_fault.OutOfMemory r is = tt
map_placed bytes _ r is = (is.0, is.1, ap (placed bytes) is.2)

module _ (wants : Wants) (bytes : List ℕ) (o : Opened) (opens : Opens bytes o) where
  unwritten : (e : ExportFault) → IsGeoFault e (placed bytes (geo_text wants (document_of o))) → IsUnwritten wants bytes e
  unwritten e is = record { map = o; opens = opens; fault = is }

  -- a fault of a call that sends, if it is none of a point's coordinate, stays as it is
  pub refused : (e : ExportFault) → ((n place : ℕ) → e ≢ fault.PointNotWhole n place) → ((n place : ℕ) → e ≢ fault.PointOutOfRange n place)
      → IsSendFault e (geo_text wants (document_of o)) → IsRefused wants bytes e
  refused (fault.Open f) a b is = inr (unwritten (fault.Open f) (map_placed bytes f (geo_text wants (document_of o)) is))
  refused (fault.PointNotWhole n place) a b is = absurd (a n place refl)
  refused (fault.PointOutOfRange n place) a b is = absurd (b n place refl)
  refused fault.NoLayer a b is = unwritten fault.NoLayer (ap (placed bytes) is)
  refused fault.SeveralLayers a b is = unwritten fault.SeveralLayers (ap (placed bytes) is)
  refused (fault.FewDecimals asked least) a b is = unwritten (fault.FewDecimals asked least) (ap (placed bytes) is)
  refused (fault.Nested n) a b is = unwritten (fault.Nested n) (ap (placed bytes) is)
  refused fault.Device a b is = tt
