use Rattle.kit_words.proofs.Common.{◌∙◌, ◌++◌, List, ap, map}
use Rattle.layer_faces.specs.declared.kind.Kind.{Kind}
use Rattle.layer_faces.specs.declared.kind.Kind.TheVariants.{Overlap, Twice, Gap, Lake}
use Rattle.cover_report.specs.Common.{told, view_asked, view_told}
use Rattle.cover_places.specs.Places.{PlaceOf, numbered, place_seen, places_of}
use Rattle.cover_places.proofs.Listed.{four}
use Rattle.cover_places.proofs.places.places_of.Goals as goal

pub returns : goal.returns
returns g c =
    let wants = view_asked c.args.asked.now in
    let faces = map (λ f. view_told f.now) c.as_slice-faces.result.now in
    let of : Kind → List PlaceOf = λ kind. numbered (told wants kind faces) in
    four (of Overlap) (of Twice) (of Gap) (of Lake)
    (map place_seen c.push_kind.new.places.items) (map place_seen c.push_kind-2.new.places.items) (map place_seen c.push_kind-3.new.places.items)
    (map place_seen c.push_kind-4.new.places.items)
    (c.in_ok-push_kind.ensures ∙ ap (λ z. map place_seen z ++ of Overlap) c.new-places.ensures.items)
    c.in_ok-push_kind-2.ensures c.in_ok-push_kind-3.ensures c.in_ok-push_kind-4.ensures
    ∙ ap (places_of wants) (ap (map (λ f. view_told f.now)) c.as_slice-faces.ensures.value ∙ c.in_ok-faces.ensures)
