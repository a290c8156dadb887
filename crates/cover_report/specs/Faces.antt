-- What is told of faces.
use Rattle.std.specs.Prelude.{ℕ, ℤ, pos, Bool, true, false, List, [], ◌∷◌, map, filter}
use Rattle.grid_geometry.specs.Common.{Edge, Position, position}
use Rattle.layer_sides.specs.Common.{Side}
use Rattle.layer_faces.specs.Common.{FaceOf, side_ends, width_of}
use Rattle.layer_faces.specs.declared.kind.Kind.{Kind}
use Rattle.layer_faces.specs.declared.kind.Kind.TheVariants.{Overlap, Twice, Gap, Lake, Land, Outside}
use Rattle.cover_report.specs.declared.faces.ToldFace.{ToldFace}

-- what is told of a face: its kind, its features, twice its area, its width, its name, and its sides, each by the ends of its
-- segment with the face on the left
pub record FaceTold : Type 0 where
  pub kind : Kind
  pub features : List ℕ
  pub area : ℤ
  pub width : ℕ
  pub from : Position
  pub to : Position
  pub sides : List Edge

abbrev pub view_told : {A : Type 0} → ToldFace A → FaceTold
view_told f = record {
  kind = f.kind;
  features = f.features.items;
  area = f.area;
  width = f.width;
  from = f.from;
  to = f.to;
  sides = f.sides.items;
}

-- a face that is told where it is within the bounds: others are land, or outside
abbrev pub is_found : Kind → Bool
is_found Overlap = true
is_found Twice = true
is_found Gap = true
is_found Lake = true
is_found Land = false
is_found Outside = false

-- the ends of the first of these sides, which has the side on its left: they name the face
abbrev pub first_ends : List Side → Edge
first_ends [] = (position (pos 0) (pos 0), position (pos 0) (pos 0))
first_ends (a ∷ others) = side_ends a

abbrev pub face_told : FaceOf → FaceTold
face_told f = record {
  kind = f.kind;
  features = f.features;
  area = f.area;
  width = width_of f.area f.border;
  from = (first_ends f.sides).0;
  to = (first_ends f.sides).1;
  sides = map side_ends f.sides;
}

-- what is told of those of these faces that are told
abbrev pub all_told : List FaceOf → List FaceTold
all_told faces = map face_told (filter (λ f. is_found f.kind) faces)
