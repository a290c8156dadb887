-- The text that is written.
use Rattle.std.specs.Prelude.{◌≡◌, List, ℕ, Ok}
use Rattle.topo_reader.specs.Common.{document_of, Opened, Opens}
use Rattle.geo_text.specs.Common.{Wants, geo_text}

-- the bytes are a map, and this is the text of its layer that is asked for
pub record IsLayerText (wants : Wants) (bytes text : List ℕ) : Type 0 where
  pub map : Opened
  pub opens : Opens bytes map
  pub is : geo_text wants (document_of map) ≡ Ok text
