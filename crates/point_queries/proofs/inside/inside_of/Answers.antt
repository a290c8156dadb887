use Rattle.kit_words.proofs.Common.{◌∙◌, ap, map}
use Rattle.point_queries.proofs.HeldFeatures.{inside_are}
use Rattle.point_queries.proofs.inside.inside_of.Goals as goal

pub returns : goal.returns
returns g c = λ p on tells.
    inside_are c.args.map.now.doc c.frame.ensures.formed.numbers p c.args.rings.now tells
    c.args.border.now on c.in_ok-polygons.polygons c.in_ok-polygons.ensures
    c.in_ok-within.within.items c.in_ok-within.ensures
    c.in_ok-found.found.items c.sort_once.new.found.items
    (c.in_ok-found.ensures ∙ ap (map (λ name. name.feature)) c.as_slice.ensures.value) c.sort_once.ensures
