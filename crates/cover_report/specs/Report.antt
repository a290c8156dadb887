-- The report of the overlaps and gaps of layers: a line for each fact.
use Rattle.std.specs.Prelude.{ℕ, suc, zero, ◌*◌, ◌^◌, ◌==◌, ◌&&◌, List, [], ◌++◌, codes, decimal, flat_map, take, if◌then◌else◌}
use Rattle.std.specs.Fmt.{signed_decimal}
use Rattle.grid_geometry.specs.Common.{position_text}
use Rattle.layer_faces.specs.declared.kind.Kind.{Kind}
use Rattle.layer_faces.specs.declared.kind.Kind.TheVariants.{Overlap, Twice, Gap, Lake, Land, Outside}
use Rattle.cover_report.specs.Asked.{Wants}
use Rattle.cover_report.specs.Counted.{count_wide, counts_of, faces_of, told, uneven_of}
use Rattle.cover_report.specs.Faces.{FaceTold}
use Rattle.cover_report.specs.Layers.{LookedAt}
use Rattle.cover_report.specs.declared.told.Counts.{Counts}
use Rattle.cover_report.specs.declared.uneven.UnevenPolygon.{UnevenPolygon}

-- ---- faces

abbrev pub kind_word : Kind → List ℕ
kind_word Overlap = codes "overlap "
kind_word Twice = codes "twice "
kind_word Gap = codes "gap "
kind_word Lake = codes "lake "
kind_word Land = codes "land "
kind_word Outside = codes "outside "

-- the numbers of features, each with a space behind it
abbrev pub features_text : List ℕ → List ℕ
features_text features = flat_map (λ n. decimal n ++ codes " ") features

-- twice the area of the face, its width, and its name, the first segment of its border: "/ A W / X Y X Y"
abbrev pub measures_text : FaceTold → List ℕ
measures_text f =
    codes "/ " ++ (signed_decimal f.area ++ (codes " " ++ (decimal f.width ++ (codes " / "
    ++ (position_text f.from ++ (codes " " ++ (position_text f.to ++ codes "\n")))))))

-- these features have the face, or lie beside it: "overlap F G .. / A W / X Y X Y"
abbrev pub face_line : FaceTold → List ℕ
face_line f = kind_word f.kind ++ (features_text f.features ++ measures_text f)

-- twice the area of polygon P of feature F is A by its rings, and B by the even-odd rule: "uneven F P A B"
abbrev pub uneven_line : UnevenPolygon → List ℕ
uneven_line u =
    codes "uneven " ++ (decimal u.feature ++ (codes " " ++ (decimal u.polygon
    ++ (codes " " ++ (signed_decimal u.by_rings ++ (codes " " ++ (signed_decimal u.even_odd ++ codes "\n")))))))

-- a line for each of the first elements of a list, at most so many
abbrev pub lines : {X : Type 0} → ℕ → (X → List ℕ) → List X → List ℕ
lines most line xs = flat_map line (take most xs)

-- ---- widths

-- so many faces of each kind are at most so wide: "wide K overlap N twice N gap N lake N"
abbrev pub wide_text : ℕ → ℕ → ℕ → ℕ → ℕ → List ℕ
wide_text most overlaps twices gaps lakes =
    codes "wide " ++ (decimal most ++ (codes " overlap " ++ (decimal overlaps ++ (codes " twice " ++ (decimal twices
    ++ (codes " gap " ++ (decimal gaps ++ (codes " lake " ++ (decimal lakes ++ codes "\n")))))))))

-- the same, where there are some
abbrev pub some_wide : ℕ → ℕ → ℕ → ℕ → ℕ → List ℕ
some_wide most overlaps twices gaps lakes =
    if overlaps == 0 && twices == 0 && gaps == 0 && lakes == 0 then []
    else wide_text most overlaps twices gaps lakes

-- of the faces that are wider than one bound and not than the other
abbrev pub wide_line : ℕ → ℕ → List FaceTold → List ℕ
wide_line over most faces =
    some_wide most (count_wide Overlap over most faces) (count_wide Twice over most faces)
    (count_wide Gap over most faces) (count_wide Lake over most faces)

-- so many lines, each for twice the width of the one before; the first is over 2^k
unfoldable pub wide_from : ℕ → ℕ → List FaceTold → List ℕ
wide_from zero k faces = []
wide_from (suc n) k faces = wide_line (2 ^ k) (2 * 2 ^ k) faces ++ wide_from n (suc k) faces

-- up to a width of 1, over 1 and up to 2, over 2 and up to 4, and so on
abbrev pub wide_lines : List FaceTold → List ℕ
wide_lines faces = wide_line 0 1 faces ++ wide_from 126 0 faces

-- ---- sums

-- twice the areas: of all polygons, held too often, covered, of gaps, within; and the layer's name:
-- "sum S over O covered C gaps G within T NAME"
abbrev pub sum_line : LookedAt → List ℕ
sum_line k =
    codes "sum " ++ (signed_decimal k.sums.polygons ++ (codes " over " ++ (signed_decimal k.sums.over
    ++ (codes " covered " ++ (signed_decimal k.sums.covered ++ (codes " gaps " ++ (signed_decimal k.sums.gaps
    ++ (codes " within " ++ (signed_decimal k.sums.within ++ (codes " " ++ (k.name ++ codes "\n")))))))))))

-- how much is told of each kind: "counts overlap N twice N gap N lake N uneven N"
abbrev pub counts_line : Counts → List ℕ
counts_line c =
    codes "counts overlap " ++ (decimal c.overlaps ++ (codes " twice " ++ (decimal c.twices
    ++ (codes " gap " ++ (decimal c.gaps ++ (codes " lake " ++ (decimal c.lakes
    ++ (codes " uneven " ++ (decimal c.uneven ++ codes "\n")))))))))

-- ---- the whole

-- the faces that are told, of each kind at most so many lines
abbrev pub told_lines : Wants → Kind → List FaceTold → List ℕ
told_lines wants kind faces = lines wants.most face_line (told wants kind faces)

abbrev pub found_text : Wants → List FaceTold → List UnevenPolygon → List ℕ
found_text wants faces uneven =
    told_lines wants Overlap faces ++ (told_lines wants Twice faces ++ (told_lines wants Gap faces
    ++ (told_lines wants Lake faces ++ lines wants.most uneven_line uneven)))

-- the report of the layers that were looked at
abbrev pub report_text : Wants → List LookedAt → List ℕ
report_text wants looks =
    found_text wants (faces_of looks) (uneven_of looks) ++ (wide_lines (faces_of looks)
    ++ (flat_map sum_line looks ++ counts_line (counts_of wants looks)))
