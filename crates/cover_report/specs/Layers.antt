-- The layers that are looked at, each with its polygons.
use Rattle.std.specs.Prelude.{◌≡◌, ℕ, suc, ◌+◌, List, map, [], ◌∷◌, ◌++◌, length, replicate, take, drop, flat_map, if◌then◌else◌}
use Rattle.std.specs.List.{range_with_len}
use Rattle.ring_machine.specs.Common.{Text}
use Rattle.topo_outline.specs.Common.{LayerText, leaves_in}
use Rattle.layer_sides.specs.Common.{AreBorders, Bordering, Polygon}
use Rattle.layer_faces.specs.Common.{AddUp, AreFaces, AreSums, FaceOf, uneven_from}
use Rattle.layer_faces.specs.declared.sums.Sums.{Sums}
use Rattle.cover_report.specs.Faces.{FaceTold, all_told, view_told}
use Rattle.cover_report.specs.Names.{is_asked}
use Rattle.cover_report.specs.Uneven.{uneven_told}
use Rattle.cover_report.specs.declared.looked.Looked.{Looked}
use Rattle.cover_report.specs.declared.uneven.UnevenPolygon.{UnevenPolygon}

-- the polygons of features, one after another
abbrev pub polygons_in : List (List Polygon) → List Polygon
polygons_in features = flat_map (λ polygons. polygons) features

-- of each of them the number of its feature, where features are numbered from n on
abbrev pub owners_from : ℕ → List (List Polygon) → List ℕ
owners_from n [] = []
owners_from n (polygons ∷ features) = replicate (length polygons) n ++ owners_from (suc n) features

-- of each its number among the polygons of its feature
abbrev pub numbers_in : List (List Polygon) → List ℕ
numbers_in features = flat_map (λ polygons. range_with_len 0 (length polygons)) features

-- a layer that is looked at: its name as it stands, its polygons, the numbers of their features, and those
-- that they have among the polygons of these
pub record LayerOf : Type 0 where
  pub name : Text
  pub polygons : List Polygon
  pub owners : List ℕ
  pub numbers : List ℕ

-- the layer with this name and these features, which are numbered from n on
abbrev pub layer_of : Text → ℕ → List (List Polygon) → LayerOf
layer_of name n features = record {
  name = name;
  polygons = polygons_in features;
  owners = owners_from n features;
  numbers = numbers_in features;
}

-- the layers that are asked for, in their order; the features of a topology are numbered from n on
unfoldable pub asked_layers : List Text → ℕ → List (List Polygon) → List LayerText → List LayerOf
asked_layers names n features [] = []
asked_layers names n features (l ∷ ls) =
    if is_asked names l.name
    then (layer_of l.name n (take (length (leaves_in l.pieces)) features)
    ∷ asked_layers names (n + length (leaves_in l.pieces)) (drop (length (leaves_in l.pieces)) features) ls)
    else asked_layers names (n + length (leaves_in l.pieces)) (drop (length (leaves_in l.pieces)) features) ls

-- ---- what was found in them

-- what was found in a layer that is told, and the layer's name
pub record LookedAt : Type 0 where
  pub name : Text
  pub faces : List FaceTold
  pub uneven : List UnevenPolygon
  pub sums : Sums

abbrev pub view_looked : {A : Type 0} → Looked A → LookedAt
view_looked looked = record {
  name = looked.name.now;
  faces = map view_told looked.faces.items;
  uneven = looked.uneven.items;
  sums = looked.sums;
}

-- the borders of the layer's polygons, and faces that have all sides of them: what is told of these, of the uneven polygons,
-- and of what the areas of all add up to
pub record IsLookAt (l : LayerOf) (k : LookedAt) : Type 0 where
  pub name : k.name ≡ l.name
  pub borders : List Bordering
  pub are_borders : AreBorders l.polygons borders
  pub faces : List FaceOf
  pub are_faces : AreFaces l.polygons l.owners (map (λ b. b.segment) borders) faces
  pub told : k.faces ≡ all_told faces
  pub uneven : k.uneven
      ≡ map (uneven_told l.owners l.numbers) (uneven_from (map (λ b. b.segment) borders) 0 l.polygons)
  pub sums : AreSums l.polygons (map (λ b. b.segment) borders) faces k.sums
  pub add_up : AddUp k.sums

-- what was found in the layer was put behind what was found before
abbrev pub AddsLook : LayerOf → List LookedAt → List LookedAt → Type 0
AddsLook l before after = (k : LookedAt) × IsLookAt l k × (after ≡ before ++ k ∷ [])

-- this was found in the layers, one after another
abbrev pub AreLooks : List LayerOf → List LookedAt → Type 0
AreLooks [] [] = Unit {0}
AreLooks (l ∷ ls) (k ∷ ks) = IsLookAt l k × AreLooks ls ks
AreLooks layers looks = ⊥
