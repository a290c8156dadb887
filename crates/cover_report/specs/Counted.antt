-- The faces that are told, and how many there are.
use Rattle.std.specs.Prelude.{ℕ, ℤ, pos, nat_le, int_le, nat_lt, Bool, true, false, ◌&&◌, ◌==◌, List, length, filter, Option, Some, None}
use Rattle.std.specs.List.{count_by, flat_map}
use Rattle.layer_faces.specs.declared.kind.Kind.{Kind}
use Rattle.layer_faces.specs.declared.kind.Kind.TheVariants.{Overlap, Twice, Gap, Lake, Land, Outside}
use Rattle.cover_report.specs.Asked.{Wants}
use Rattle.cover_report.specs.Layers.{LookedAt}
use Rattle.cover_report.specs.Faces.{FaceTold}
use Rattle.cover_report.specs.declared.told.Counts.{Counts}
use Rattle.cover_report.specs.declared.uneven.UnevenPolygon.{UnevenPolygon}

abbrev pub is_kind : Kind → Kind → Bool
is_kind Overlap Overlap = true
is_kind Twice Twice = true
is_kind Gap Gap = true
is_kind Lake Lake = true
is_kind Land Land = true
is_kind Outside Outside = true
is_kind one other = false

-- the width, and the area, is within a bound, if there is one
abbrev pub is_width_at_most : ℕ → Option ℕ → Bool
is_width_at_most width None = true
is_width_at_most width (Some most) = nat_le width most

abbrev pub is_area_at_most : ℤ → Option ℕ → Bool
is_area_at_most area None = true
is_area_at_most area (Some most) = int_le area (pos most)

-- the face is of this kind, and within the bounds
abbrev pub is_told : Wants → Kind → FaceTold → Bool
is_told wants kind f =
    is_kind f.kind kind && is_width_at_most f.width wants.width && is_area_at_most f.area wants.area

-- all faces and all uneven polygons of the layers that were looked at
abbrev pub faces_of : List LookedAt → List FaceTold
faces_of looks = flat_map (λ k. k.faces) looks

abbrev pub uneven_of : List LookedAt → List UnevenPolygon
uneven_of looks = flat_map (λ k. k.uneven) looks

-- the faces of a kind that are told
abbrev pub told : Wants → Kind → List FaceTold → List FaceTold
told wants kind faces = filter (is_told wants kind) faces

-- how much is told of each kind, of these faces and uneven polygons
abbrev pub counts_among : Wants → List FaceTold → List UnevenPolygon → Counts
counts_among wants faces uneven = record {
  overlaps = length (told wants Overlap faces);
  twices = length (told wants Twice faces);
  gaps = length (told wants Gap faces);
  lakes = length (told wants Lake faces);
  uneven = length uneven;
}

-- and of all that was found in layers
abbrev pub counts_of : Wants → List LookedAt → Counts
counts_of wants looks = counts_among wants (faces_of looks) (uneven_of looks)

-- nothing but lakes is told
abbrev pub is_clear : Counts → Bool
is_clear c = c.overlaps == 0 && c.twices == 0 && c.gaps == 0 && c.uneven == 0

-- the face is of this kind, and wider than one bound and not than the other
abbrev pub is_wide : Kind → ℕ → ℕ → FaceTold → Bool
is_wide kind over most f = is_kind f.kind kind && nat_lt over f.width && nat_le f.width most

abbrev pub count_wide : Kind → ℕ → ℕ → List FaceTold → ℕ
count_wide kind over most faces = count_by (is_wide kind over most) faces
