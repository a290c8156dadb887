-- Which polygons were taken apart.
use Rattle.std.specs.Prelude.{◌≡◌, ℕ, suc, List, [], ◌∷◌, ◌++◌, map, length, if◌then◌else◌}
use Rattle.std.specs.List.{AllZip, list_all}
use Rattle.grid_geometry.specs.Common.{Position}
use Rattle.ring_machine.specs.Common.{Document, features}
use Rattle.topo_reader.specs.Common.{Polygons, is_simple}
use Rattle.segment_paths.specs.Common.{PathOfSegment}
use Rattle.walk_mending.specs.Common.{laid}
use Rattle.map_mending.specs.declared.parted.Parted.{Parted}
use Rattle.map_mending.specs.Mended.{MendsPolygon, polygons_of_parts}

-- what is reported of polygon k of feature n: nothing where its laid walks are all rings, and else how
-- many polygons it stands as now
abbrev pub told_of : List PathOfSegment → ℕ → ℕ → List (List Position) → Polygons → List Parted
told_of paths n k walks parts =
    if list_all is_simple (map (laid paths) walks) then []
    else (record { feature = n; polygon = k; parts = length parts } ∷ [])

-- what is reported of the polygons of feature n, the first of which is polygon k
abbrev pub told_from : List PathOfSegment → ℕ → ℕ → Polygons → List Polygons → List Parted
told_from paths n k (walks ∷ polygons) (part ∷ parts) =
    told_of paths n k walks part ++ told_from paths n (suc k) polygons parts
told_from paths n k _ _ = []

-- what is reported of features, the first of which is feature n
abbrev pub told_in : List PathOfSegment → ℕ → List Polygons → List (List Polygons) → List Parted
told_in paths n (polygons ∷ features) (parts ∷ all) =
    told_from paths n 0 polygons parts ++ told_in paths (suc n) features all
told_in paths n _ _ = []

-- polygons by feature are mended, and it is reported which of them were taken apart, in order
pub record TellsParted (paths : List PathOfSegment) (walks mended : List Polygons) (told : List Parted)
    : Type 0 where
  pub parts : List (List Polygons)
  pub each : AllZip (AllZip (MendsPolygon paths)) walks parts
  pub joins : mended ≡ map polygons_of_parts parts
  pub tells : told ≡ told_in paths 0 walks parts

-- the polygons of a document by feature
abbrev pub polygons_by_feature : Document → List Polygons
polygons_by_feature d = map (λ f. f.polygons) (features d)

-- the list tells each polygon of d that was taken apart, and no other, in the order of d
abbrev pub TellsPartedIn : List PathOfSegment → Document → Document → List Parted → Type 0
TellsPartedIn paths d e told = TellsParted paths (polygons_by_feature d) (polygons_by_feature e) told
