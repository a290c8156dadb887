use Rattle.kit_words.proofs.Common.{◌∙◌, ◌++◌, ap, map}
use Rattle.topo_outline.specs.Common.{view_kept}
use Rattle.geo_text.proofs.FrontNames.{no_collection}
use Rattle.geo_text.proofs.front.collection_members.Goals as goal

pub returns-in_default : goal.returns-in_default
returns-in_default g c =
    let others = c.args.of_topology.now in
    ap (map view_kept) (c.in_ok-extend_from_slice.ensures.items ∙ ap (λ z. z ++ others) c.new-found.ensures.items)
    ∙ no_collection c.args.head (map view_kept others) c.in_default.is
