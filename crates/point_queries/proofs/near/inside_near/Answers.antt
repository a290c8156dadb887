use Rattle.kit_words.proofs.Common.{sym, subst}
use Rattle.ring_machine.specs.Common.{features, is_on_border}
use Rattle.point_queries.specs.Common.{Rises}
use Rattle.point_queries.proofs.Ascending.{numbers_rise}
use Rattle.point_queries.proofs.near.inside_near.Goals as goal

pub inside_of-requires : goal.inside_of-requires
inside_of-requires g c =
    let d = c.args.map.now.doc in
    subst Rises (sym c.requires.border) (numbers_rise (is_on_border c.args.p) (features d) c.frame.ensures.formed.numbers)
