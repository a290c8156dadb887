-- The document of ring numbers that opening makes of what was read.
use Rattle.std.specs.Prelude.{◌≡◌, ◌≤◌, ℕ, List, length, map, Option, Vec}
use Rattle.ring_machine.specs.Common.{DocumentOf, WellFormed, Text, Member}
use Rattle.topo_outline.specs.Outline.{leaves}
use Rattle.topo_outline.specs.Common.{view_layer}
use Rattle.topo_outline.specs.declared.document.RawLayer.{RawLayer}
use Rattle.topo_outline.specs.Common.{layers_from}
use Rattle.map_frame.specs.Numbers.{feature_numbers}

module _ {A : Type 0} where
  -- what was read, each feature with the numbers of its rings: features are numbered from 0 in the
  -- order of the text
  abbrev pub opened : Option Text → List (RawLayer A) → List Member → List (Vec (Vec ℕ A) A) → DocumentOf ℕ
  opened transform layers members polygons = record {
    transform = transform;
    layers = layers_from 0 (map feature_numbers polygons) (map view_layer layers);
    members = members;
  }

  -- each feature has its polygons, there are at most 200,000, and the document is well formed
  pub record CanStand (transform : Option Text) (layers : List (RawLayer A)) (members : List Member)
      (polygons : List (Vec (Vec ℕ A) A)) : Type 0 where
    pub counted : length polygons ≡ length (leaves (map view_layer layers))
    pub few : length polygons ≤ 200000
    pub formed : WellFormed (opened transform layers members polygons)
