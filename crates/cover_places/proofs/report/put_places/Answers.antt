use Rattle.kit_words.proofs.Common.{◌∙◌, ap, map, option_map}
use Rattle.cover_report.specs.Common.{faces_of, view_asked, view_looked}
use Rattle.cover_places.specs.Places.{places_of}
use Rattle.cover_places.specs.Text.{topology_text}
use Rattle.cover_places.proofs.Placed.{none_holds}
use Rattle.cover_places.proofs.report.put_places.Goals as goal

pub returns-then-is_none-clause-placed : goal.returns-then-is_none-clause-placed
returns-then-is_none-clause-placed g c = none_holds c.args.places.now c.is_none.result _ c.is_none.ensures c.if-is_none.true

pub returns-clause-placed : goal.returns-clause-placed
returns-clause-placed g c =
    let transform = option_map (λ t. t.now) c.args.looked.now.transform in
    let wants = view_asked c.args.asked.now in
    c.in_ok-text.ensures
    ∙ ap (λ z. topology_text transform (places_of wants (faces_of (map view_looked z)))) c.as_slice.ensures.value
