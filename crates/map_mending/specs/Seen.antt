-- What the code makes of a map, step by step.
use Rattle.std.specs.Prelude.{◌≡◌, ℕ, List, [], ◌∷◌, ◌++◌, length, drop}
use Rattle.std.specs.List.{AllZip}
use Rattle.topo_outline.specs.Common.{Piece, starts, ends, leaf, text, LayerText, at_most_one, leaf_of, leaves_in}
use Rattle.topo_reader.specs.Common.{Polygons, Opened}
use Rattle.topo_outline.specs.Common.{polygons_at}
use Rattle.segment_paths.specs.Common.{PathOfSegment}
use Rattle.map_mending.specs.declared.parted.Parted.{Parted}
use Rattle.map_mending.specs.Mended.{MendsPolygon, polygons_of_parts, form_after}
use Rattle.map_mending.specs.Told.{told_from}

-- polygons that stand in the place of those of feature n, and what is reported of them after the rest
pub record StandsFor (paths : List PathOfSegment) (n : ℕ) (walks mended : Polygons)
    (before after : List Parted) : Type 0 where
  pub parts : List Polygons
  pub each : AllZip (MendsPolygon paths) walks parts
  pub joins : mended ≡ polygons_of_parts parts
  pub tells : after ≡ before ++ told_from paths n 0 walks parts

-- a feature has the form that its polygons ask for, the first of these
abbrev pub piece_after : List Polygons → Piece → Piece
piece_after all (starts head) = starts head
piece_after all ends = ends
piece_after all (leaf form head arcs) =
    leaf (form_after form (length (polygons_at all 0))) head arcs
piece_after all (text t) = text t

-- how many features the piece is
abbrev pub features_at : Piece → ℕ
features_at p = length (at_most_one (leaf_of p))

-- the features have the forms that their polygons ask for, which are these in order
abbrev pub pieces_after : List Polygons → List Piece → List Piece
pieces_after all [] = []
pieces_after all (p ∷ ps) = piece_after all p ∷ pieces_after (drop (features_at p) all) ps

-- the same of the layers
abbrev pub layers_after : List Polygons → List LayerText → List LayerText
layers_after all [] = []
layers_after all (l ∷ ls) =
    record { name = l.name; pieces = pieces_after all l.pieces }
    ∷ layers_after (drop (length (leaves_in l.pieces)) all) ls

-- a topology with other polygons, and the forms that they ask for
abbrev pub with_mended : Opened → List Polygons → Opened
with_mended o all = record {
  transform = o.transform;
  layers = layers_after all o.layers;
  members = o.members;
  polygons = all;
}
