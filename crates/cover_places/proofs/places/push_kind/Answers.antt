use Rattle.kit_words.proofs.Common.{◌≡◌, ◌∙◌, ◌++◌, List, OnOk, ap, map, subst}
use Rattle.cover_report.specs.Common.{view_told}
use Rattle.cover_places.specs.Places.{PlaceOf, numbered, place_seen}
use Rattle.cover_places.proofs.places.push_kind.Goals as goal

pub returns : goal.returns
returns g c =
    subst (λ (z : List PlaceOf). OnOk c.push_faces.result (map place_seen c.push_faces.new.places.items ≡ map place_seen c.args.places.now.items ++ z))
    (ap (λ z. numbered (map (λ f. view_told f.now) z)) c.as_slice.ensures.value ∙ ap numbered c.in_ok-told.ensures) c.push_faces.ensures
