-- The places of a map that was looked at.
use Rattle.kit_words.proofs.Common.{◌≡◌, ℕ, Bool, true, sym, ap, ◌∙◌, subst, List, Option, Some, None, IfSome, Vec}
use Rattle.kit_words.proofs.Common.{is_some, not, false≢true}
use Rattle.segment_paths.specs.Common.{PathOfSegment, paths_seen}
use Rattle.topo_reader.specs.Common.{Opened, Polygons}
use Rattle.walk_faults.specs.declared.findings.Findings.{Findings}
use Rattle.place_text.specs.Common.{IsPlaceText}
use Rattle.mend_report.specs.Common.{PlacesRemade, Remade, OpensOn}
use Rattle.mend_report.specs.Looking.{HasPlaces}
use Rattle.grid_reader.specs.declared.wants.Wants.{Wants}
use Rattle.ring_machine.specs.Common.{Text}
use Rattle.walk_faults.specs.Common.{Found}

-- where nothing is asked for, all that is asked for holds
pub none_holds : {X : Type 0} (o : Option X) (none : Bool) (P : X → Type 0) → is_some o ≡ not none → none ≡ true → IfSome o P
none_holds None none P e f = tt
none_holds (Some x) none P e f = absurd (false≢true (sym (e ∙ ap not f)))

-- and so are the places of a map that is mended
pub remade_placed : {A : Type 0} (o : Opened) (found : Findings A) (remade : Remade A) (places : Option (Vec ℕ A)) → Found o.polygons found
    → IfSome places (λ text. IsPlaceText o.transform o.polygons found (Some (paths_seen remade.paths.items)) text.items) → PlacesRemade o remade places
remade_placed o found remade None is_found h = h
remade_placed o found remade (Some text) is_found h = (found, is_found, h)

-- what is reported of the transform and the walks of the map is reported of the map
pub placed_same : {A : Type 0} (o : Opened) (found : Findings A) (transform : Option Text) (walks : List Polygons) (given paths : Option (List PathOfSegment)) (places : Option (Vec ℕ A))
    → transform ≡ o.transform → walks ≡ o.polygons → given ≡ paths
    → IfSome places (λ text. IsPlaceText transform walks found given text.items) → IfSome places (λ text. IsPlaceText o.transform o.polygons found paths text.items)
placed_same o found transform walks given paths places t p q h =
    subst (λ z. IfSome places (λ text. IsPlaceText o.transform o.polygons found z text.items)) q
    (subst (λ z. IfSome places (λ text. IsPlaceText o.transform z found given text.items)) p
    (subst (λ z. IfSome places (λ text. IsPlaceText z walks found given text.items)) t h))

-- and of the bytes that the map is opened from
pub placed_at : {A : Type 0} (wants : Wants) (bytes : List ℕ) (o : Opened) (found : Findings A) (paths : Option (List PathOfSegment)) (places : Option (Vec ℕ A))
    → OpensOn wants bytes o → IfSome places (λ text. IsPlaceText o.transform o.polygons found paths text.items)
    → IfSome places (λ text. HasPlaces wants bytes found paths text.items)
placed_at wants bytes o found paths None opens h = tt
placed_at wants bytes o found paths (Some text) opens h = (o, opens, h)
