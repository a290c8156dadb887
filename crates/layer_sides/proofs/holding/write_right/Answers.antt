use Rattle.layer_sides.proofs.HoldingSides.{bounds_sorted, either_left}
use Rattle.layer_sides.proofs.holding.write_right.Goals as goal

pub flipped-requires-clause-others : goal.flipped-requires-clause-others
flipped-requires-clause-others g c =
    bounds_sorted c.args.borders.now.items c.args.place c.index.result.now c.as_slice-2.result.now c.requires.place c.index.ensures c.as_slice-2.ensures.value c.requires.sorted

pub returns-clause-either : goal.returns-clause-either
returns-clause-either g c =
    either_left c.args.borders.now.items c.args.place c.index.result.now c.as_slice-2.result.now c.as_slice.result.now c.args.numbers.items c.in_ok-left.left.items
    c.requires.place c.index.ensures c.as_slice-2.ensures.value c.as_slice.ensures.value c.in_ok-left.ensures.either
