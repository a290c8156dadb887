use Rattle.layer_sides.proofs.Seeing.{right_set}
use Rattle.layer_sides.proofs.holding.set_right.Goals as goal

pub returns : goal.returns
returns g c =
    right_set c.args.borders.now.items c.args.place c.index_mut.result.now c.args.numbers c.requires c.index_mut.ensures.value
