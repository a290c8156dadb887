use Rattle.kit_words.proofs.Common.{sym, subst}
use Rattle.ring_machine.specs.Common.{features, is_on_border}
use Rattle.point_queries.specs.Common.{HavePassed, TellsInside, Rises}
use Rattle.point_queries.proofs.Ascending.{numbers_rise}
use Rattle.point_queries.proofs.Telling.{tells_far}
use Rattle.point_queries.proofs.inside.inside_at.Goals as goal

pub inside_of-requires : goal.inside_of-requires
inside_of-requires g c =
    let d = c.args.map.now.doc in
    subst Rises (sym c.requires) (numbers_rise (is_on_border c.args.p) (features d) c.frame.ensures.formed.numbers)

pub returns : goal.returns
returns g c =
    let d = c.args.map.now.doc in
    let p = c.args.p in
    let rings = c.in_ok-rings.rings.items in
    c.inside_of.ensures p c.requires
    (subst (TellsInside d p) (sym c.as_slice.ensures.value)
    (tells_far d c.frame.ensures.proper.are_rings c.frame.ensures.range p rings
    (subst (λ z. HavePassed d p z rings) c.ray_from.ensures c.in_ok-rings.ensures)))
