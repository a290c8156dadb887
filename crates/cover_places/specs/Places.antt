-- The faces that are told, as a report has them.
use Rattle.std.specs.Prelude.{ℕ, List, [], ◌∷◌, ◌++◌}
use Rattle.walk_faults.specs.Common.{flat_map_at}
use Rattle.layer_faces.specs.declared.kind.Kind.TheVariants.{Overlap, Twice, Gap, Lake}
use Rattle.cover_report.specs.Common.{FaceTold, Wants, told, view_told}
use Rattle.cover_places.specs.declared.places.Place.{Place}

-- a face that is told, and its number: its line is that one of its kind, counted from 0, where the report has them all
pub record PlaceOf : Type 0 where
  pub number : ℕ
  pub face : FaceTold

abbrev pub place_of : ℕ → FaceTold → PlaceOf
place_of n f = record { number = n; face = f }

-- a face as the code has it
abbrev pub place_seen : {A : Type 0} → Place A → PlaceOf
place_seen p = place_of p.number (view_told p.face.now)

-- these faces, numbered from 0
abbrev pub numbered : List FaceTold → List PlaceOf
numbered faces = flat_map_at (λ n f. place_of n f ∷ []) 0 faces

-- the faces that are told, in the order of the report: those within the bounds, whatever the most lines are
abbrev pub places_of : Wants → List FaceTold → List PlaceOf
places_of wants faces =
    numbered (told wants Overlap faces) ++ (numbered (told wants Twice faces)
    ++ (numbered (told wants Gap faces) ++ numbered (told wants Lake faces)))
