-- How the areas of features change.
use Rattle.std.specs.Prelude.{ℕ, suc, ℤ, pos, ◌+ℤ◌, ◌&&◌, ◌==◌, List, [], ◌∷◌, ◌++◌, if◌then◌else◌}
use Rattle.std.specs.List.{fold}
use Rattle.std.specs.Ordering.{int_eq}
use Rattle.ring_machine.specs.Common.{polygon_area}
use Rattle.segment_paths.specs.Common.{PathOfSegment}
use Rattle.topo_reader.specs.Common.{Polygons}
use Rattle.map_mending.specs.Swept.{swept_of}
use Rattle.map_mending.specs.declared.change.AreaChange.{AreaChange}

-- twice the area of the polygons of a feature: their sum
abbrev pub area_in : Polygons → ℤ
area_in polygons = fold (λ so_far polygon. so_far +ℤ polygon_area polygon) (pos 0) polygons

-- how feature n changes, whose polygons these are before and after
abbrev pub change_of : List PathOfSegment → ℕ → Polygons → Polygons → AreaChange
change_of paths n before after = record {
  feature = n;
  before = area_in before;
  after = area_in after;
  swept = swept_of paths before;
}

-- a change is reported where the area changes, or something is swept over
abbrev pub told_if : AreaChange → List AreaChange
told_if c = if int_eq c.before c.after && c.swept == 0 then [] else (c ∷ [])

-- what is reported of features, of which the first is feature n
abbrev pub changes_from : List PathOfSegment → ℕ → List Polygons → List Polygons → List AreaChange
changes_from paths n (before ∷ features) (after ∷ mended) =
    told_if (change_of paths n before after) ++ changes_from paths (suc n) features mended
changes_from paths n _ _ = []
