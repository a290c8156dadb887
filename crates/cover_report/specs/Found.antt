-- What is found in a map.
use Rattle.std.specs.Prelude.{◌≡◌, true, ℕ, List, Option}
use Rattle.ring_machine.specs.Common.{Text}
use Rattle.topo_reader.specs.Common.{Opened}
use Rattle.cover_report.specs.Asked.{Wants}
use Rattle.cover_report.specs.Faults.{OpensProper}
use Rattle.cover_report.specs.Layers.{AreLooks, LookedAt, asked_layers}
use Rattle.cover_report.specs.Names.{are_there}

-- the bytes are a map that opens, with this transform or none, and has the layers that are asked for; and this was found in
-- these layers
pub record IsLookedAt (wants : Wants) (bytes : List ℕ) (transform : Option Text) (looks : List LookedAt) : Type 0 where
  pub map : Opened
  pub opens : OpensProper bytes map
  pub under : transform ≡ map.transform
  pub there : are_there wants.layers map.layers ≡ true
  pub found : AreLooks (asked_layers wants.layers 0 map.polygons map.layers) looks
