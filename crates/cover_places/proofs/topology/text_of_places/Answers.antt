use Rattle.kit_words.proofs.Common.{ap, ◌∙◌, ◌++◌, map, option_map}
use Rattle.cover_places.specs.Places.{place_seen}
use Rattle.cover_places.specs.Text.{topology_text}
use Rattle.cover_places.proofs.topology.text_of_places.Goals as goal

pub returns : goal.returns
returns g c =
    let transform = option_map (λ t. t.now) c.args.transform in
    c.in_ok-push_topology.ensures
    ∙ ap (λ z. z ++ topology_text transform (map place_seen c.as_slice.result.now)) c.new-text.ensures.items
    ∙ ap (λ z. topology_text transform (map place_seen z)) c.as_slice.ensures.value
    ∙ ap (topology_text transform) c.in_ok-places.ensures
