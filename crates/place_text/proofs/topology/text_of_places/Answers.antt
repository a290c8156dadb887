use Rattle.kit_words.proofs.Common.{ap, ap₂, ◌∙◌, ◌++◌, subst, List, option_map}
use Rattle.segment_paths.specs.Common.{paths_seen}
use Rattle.walk_faults.specs.Common.{features_seen}
use Rattle.place_text.specs.Common.{Place, Side, told_by, told_paths, Answers, topology_text}
use Rattle.place_text.proofs.SameText.{text_is}
use Rattle.place_text.proofs.topology.text_of_places.Goals as goal

pub returns : goal.returns
returns g c =
    let transform = option_map (λ t. t.now) c.args.transform in
    let features = features_seen c.args.walks.now in
    let found = c.args.findings.now in
    let paths = option_map (λ ps. paths_seen ps.now) c.args.paths in
    let owners = c.in_ok-owners.owners in
    text_is transform features found paths c.in_ok-places.places.items c.in_ok-sides.sides.items owners c.push_topology.new.text.items
    c.in_ok-places.ensures c.in_ok-sides.ensures
    (subst (λ sides. Answers features found.touches.items sides (told_paths paths) owners.tables) c.as_slice.ensures.value c.in_ok-owners.ensures.tables)
    c.in_ok-owners.ensures.pairs
    (c.in_ok-push_topology.ensures
    ∙ ap (λ z. z ++ topology_text (told_by owners) transform c.as_slice-places.result.now c.as_slice-sides.result.now paths) c.new-text.ensures.items
    ∙ ap₂ (λ (ps : List Place) (ss : List Side). topology_text (told_by owners) transform ps ss paths) c.as_slice-places.ensures.value c.as_slice-sides.ensures.value)
