-- The features of a map: their positions within bounds, and what the text of the map has of them.
use Rattle.std.specs.Prelude.{ℕ, ◌+◌, List, [], ◌∷◌, flat_map, map, Option, option_map, Vec}
use Rattle.grid_geometry.specs.Common.{Position}
use Rattle.ring_machine.specs.Common.{Head}
use Rattle.topo_outline.specs.Common.{LayerText, Piece, leaf}
use Rattle.topo_reader.specs.Common.{view_raw}
use Rattle.topo_reader.specs.declared.document.RawDoc.{RawDoc}
use Rattle.map_features.specs.declared.bounds.Bounds.{Bounds}
use Rattle.map_features.specs.declared.shapes.Shape.{Shape}
use Rattle.map_features.specs.Windows.{AreWithin}

abbrev pub ShapeIn : {A : Type 0} → Option Bounds → Shape A → Type 0
ShapeIn bounds shape = AreWithin bounds shape.polygons.now

-- ---- as the text of the map has them

-- the `id` and the `properties` of each feature of a layer, and of those of all layers, in the order of the text
abbrev pub heads_in : Piece → List Head
heads_in (leaf form head arcs) = head ∷ []
heads_in piece = []

abbrev pub heads_of : List LayerText → List Head
heads_of layers = flat_map (λ layer. flat_map heads_in layer.pieces) layers

-- a feature: its number, the texts of its `id` and its `properties`, and its polygons
abbrev pub Described : Type 0 → Type 0
Described P = ℕ × Option (List ℕ) × Option (List ℕ) × P

-- the features with their polygons, numbered from n on
abbrev pub descriptions_from : {P : Type 0} → ℕ → List Head → List P → List (Described P)
descriptions_from n [] polygons = []
descriptions_from n (head ∷ heads) [] = []
descriptions_from n (head ∷ heads) (p ∷ polygons) =
    (n, head.id, head.properties, p) ∷ descriptions_from (n + 1) heads polygons

-- what a shape has
abbrev pub description_of : {A : Type 0} → Shape A → Described (List (Vec (Vec Position A) A))
description_of shape = (
  shape.number,
  option_map (λ t. t.now) shape.id,
  option_map (λ t. t.now) shape.properties,
  shape.polygons.now,
)

-- the features of a map in the order of its text, numbered from 0, with these polygons
abbrev pub features_described : {A : Type 0} → RawDoc A → List (Vec (Vec (Vec Position A) A) A)
    → List (Described (List (Vec (Vec Position A) A)))
features_described raw polygons =
    descriptions_from 0 (heads_of (view_raw raw).layers) (map (λ p. p.items) polygons)
