-- The parts of a report, put one behind another.
use Rattle.kit_words.proofs.Common.{◌≡◌, ◌∙◌, ℕ, List, ◌++◌, ap, ap₂, length, appended_four}
use Rattle.std.specs.Prelude.{flat_map}
use Rattle.layer_faces.specs.declared.kind.Kind.TheVariants.{Overlap, Twice, Gap, Lake}
use Rattle.cover_report.specs.Asked.{Wants}
use Rattle.cover_report.specs.Counted.{counts_among, counts_of, faces_of, told, uneven_of}
use Rattle.cover_report.specs.Faces.{FaceTold}
use Rattle.cover_report.specs.Layers.{LookedAt}
use Rattle.cover_report.specs.Report.{counts_line, found_text, report_text, sum_line, wide_lines}
use Rattle.cover_report.specs.declared.told.Counts.{Counts}
use Rattle.cover_report.specs.declared.uneven.UnevenPolygon.{UnevenPolygon}

-- how many there are of each kind
pub counted : (wants : Wants) (faces : List FaceTold) (uneven : List UnevenPolygon) (o t g l u : ℕ) → o ≡ length (told wants Overlap faces)
    → t ≡ length (told wants Twice faces) → g ≡ length (told wants Gap faces) → l ≡ length (told wants Lake faces) → u ≡ length uneven
    → ◌≡◌ {A = Counts} (record { overlaps = o; twices = t; gaps = g; lakes = l; uneven = u }) (counts_among wants faces uneven)
counted wants faces uneven o t g l u eo et eg el eu = λ i. record { overlaps = eo i; twices = et i; gaps = eg i; lakes = el i; uneven = eu i }

-- how many there are in layers
pub counted_in : (wants : Wants) (looks : List LookedAt) (faces : List FaceTold) (uneven : List UnevenPolygon) (c : Counts) → faces ≡ faces_of looks → uneven ≡ uneven_of looks
    → c ≡ counts_among wants faces uneven → c ≡ counts_of wants looks
counted_in wants looks faces uneven c e f is = is ∙ ap₂ (counts_among wants) e f

-- the whole report
pub reported : (wants : Wants) (looks : List LookedAt) (faces : List FaceTold) (wide : List FaceTold) (uneven : List UnevenPolygon) (c : Counts) (old t u v new : List ℕ)
    → faces ≡ faces_of looks → wide ≡ faces_of looks → uneven ≡ uneven_of looks → c ≡ counts_of wants looks
    → t ≡ old ++ found_text wants faces uneven → u ≡ t ++ wide_lines wide → v ≡ u ++ flat_map sum_line looks → new ≡ v ++ counts_line c
    → new ≡ old ++ report_text wants looks
reported wants looks faces wide uneven c old t u v new is_faces is_wide is_uneven is_counts e f g h =
    appended_four old (found_text wants (faces_of looks) (uneven_of looks)) (wide_lines (faces_of looks)) (flat_map sum_line looks) (counts_line (counts_of wants looks)) t u v new
    (e ∙ ap₂ (λ x y. old ++ found_text wants x y) is_faces is_uneven) (f ∙ ap (λ x. t ++ wide_lines x) is_wide) g (h ∙ ap (λ k. v ++ counts_line k) is_counts)
