use Rattle.kit_words.proofs.Common.{rules, to_z-of_z}
use Rattle.json_spans.specs.Common.{node}
use Rattle.topo_reader.proofs.Summing.{pair_fails}
use Rattle.topo_reader.proofs.arcs.pair.Goals as goal
use mir.Syntax.{w64}
use mir.Val.{SFits}

pub returns-in-Err-coordinate : goal.returns-in-Err-coordinate
returns-in-Err-coordinate c =
    let across : SFits w64 c.x.result = search rules in
    let upward : SFits w64 c.y.result = search rules in
    pair_fails _ c.args.before c.x.result c.y.result _ (node c.args.first) (node c.args.second) c.x.ensures.value c.y.ensures.value (simp to_z-of_z at c.in-Ok.ensures.value) (simp to_z-of_z at c.in-Err-coordinate.ensures.value)
