-- The faces of a layer: sides that lie in one face, who holds them, and what kind of face it is.
use Rattle.std.specs.Prelude.{◌≡◌, ℕ, ℤ, ◌≤◌, ◌==◌, Bool, true, false, List, [], ◌∷◌, length, if◌then◌else◌}
use Rattle.std.specs.List.{All, count_by, flat_map}
use Rattle.std.specs.List.Sorted.{IsPermutation}
use Rattle.grid_geometry.specs.Common.{Segment}
use Rattle.layer_sides.specs.Common.{Polygon, Side, holders}
use Rattle.layer_faces.specs.declared.kind.Kind.{Kind}
use Rattle.layer_faces.specs.declared.kind.Kind.TheVariants.{Overlap, Twice, Gap, Lake, Land, Outside}
use Rattle.layer_faces.specs.Areas.{all_sides, side_term, total}
use Rattle.layer_faces.specs.Lengths.{border_length}
use Rattle.layer_faces.specs.Holders.{IsOnce, features_of, told_by}

-- a face: its sides, the numbers of the polygons that hold it, the features that are reported for it,
-- twice its area, the length of its borders in 65,536ths of a unit, and its kind
pub record FaceOf : Type 0 where
  pub sides : List Side
  pub holders : List ℕ
  pub features : List ℕ
  pub area : ℤ
  pub border : ℕ
  pub kind : Kind

-- the kind of a face, from the polygons that hold it and the features that are reported for it
abbrev pub kind_of : List ℕ → List ℕ → Kind
kind_of [] features = if length features == 1 then Lake else Gap
kind_of (n ∷ []) features = Land
kind_of (n ∷ m ∷ ns) features = if length features == 1 then Twice else Overlap

-- it is the kind of the outside
abbrev pub is_outside : Kind → Bool
is_outside Outside = true
is_outside Overlap = false
is_outside Twice = false
is_outside Gap = false
is_outside Lake = false
is_outside Land = false

-- it is the outside, which no polygon holds, or of the kind that its holders say
pub data IsKind (holders features : List ℕ) (kind : Kind) : Type 0 where
  outside : holders ≡ [] → kind ≡ Outside → IsKind holders features kind
  by_holders : kind ≡ kind_of holders features → IsKind holders features kind

-- all sides of the face are held by its holders, and its area and its length are the sums over them
pub record IsFace (polygons : List Polygon) (owners : List ℕ) (f : FaceOf) : Type 0 where
  pub held : All (λ a. holders polygons a ≡ f.holders) f.sides
  pub told : IsOnce (features_of owners (told_by polygons f.holders f.sides)) f.features
  pub area : f.area ≡ total side_term f.sides
  pub border : f.border ≡ border_length f.sides
  pub kind : IsKind f.holders f.features f.kind

-- the faces have all sides of the borders, each once; no more than one of them is the outside
pub record AreFaces (polygons : List Polygon) (owners : List ℕ) (borders : List Segment)
    (faces : List FaceOf) : Type 0 where
  pub all : IsPermutation (all_sides borders) (flat_map (λ f. f.sides) faces)
  pub each : All (IsFace polygons owners) faces
  pub one_outside : count_by (λ f. is_outside f.kind) faces ≤ 1
