use Rattle.kit_words.proofs.Common.{to_z-of_z}
use Rattle.json_spans.specs.Common.{node}
use Rattle.grid_reader.specs.Common.{fine_seen}
use Rattle.grid_reader.proofs.Reach.{near_fits}
use Rattle.grid_reader.proofs.Summing.{pair_fails}
use Rattle.grid_reader.proofs.fine.pair.Goals as goal
use mir.Syntax.{w128}
use mir.Val.{SFits}

pub returns-in-Err-coordinate : goal.returns-in-Err-coordinate
returns-in-Err-coordinate c =
    let across : SFits w128 c.args.before.x = near_fits c.args.before.x c.args.before.across in
    let upward : SFits w128 c.args.before.y = near_fits c.args.before.y c.args.before.upward in
    pair_fails _ c.args.finer (fine_seen c.args.before) c.in-Ok.value (node c.args.first) (node c.args.second) (simp to_z-of_z at c.in-Ok.ensures.value) (simp to_z-of_z at c.in-Err-coordinate.ensures.value)
