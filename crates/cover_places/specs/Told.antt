-- What is told of a map in a report, and in the text of its places.
use Rattle.std.specs.Prelude.{◌≡◌, ℕ, List, ◌++◌, Option, IfSome, Vec}
use Rattle.ring_machine.specs.Common.{Text}
use Rattle.cover_report.specs.Common.{IsLookedAt, LookedAt, Wants, counts_of, faces_of, report_text}
use Rattle.cover_report.specs.declared.told.Counts.{Counts}
use Rattle.cover_places.specs.Places.{places_of}
use Rattle.cover_places.specs.Text.{topology_text}

-- this was found in the layers of a map that are asked for; the report of it was put behind a text, and the places, where they
-- are asked for, are those of the same faces, under the transform of the map
pub record IsTold {A : Type 0} (wants : Wants) (bytes : List ℕ) (counts : Counts) (before after : List ℕ)
    (places : Option (Vec ℕ A)) : Type 0 where
  pub transform : Option Text
  pub looks : List LookedAt
  pub found : IsLookedAt wants bytes transform looks
  pub told : after ≡ before ++ report_text wants looks
  pub counted : counts ≡ counts_of wants looks
  pub placed : IfSome places (λ text. text.items ≡ topology_text transform (places_of wants (faces_of looks)))
