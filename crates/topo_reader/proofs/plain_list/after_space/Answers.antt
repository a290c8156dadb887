use Rattle.kit_words.proofs.Common.{◌≡◌, ◌<◌, true, length, get_or, arith, common_steps}
use Rattle.json_spans.specs.Common.{is_space}
use Rattle.topo_reader.proofs.PlainLists.{space_more, space_end, space_last}
use Rattle.topo_reader.proofs.plain_list.after_space.Goals as goal

pub loop-i-init : goal.loop-i-init
loop-i-init c rest s = s

pub loop-i-preserved : goal.loop-i-preserved
loop-i-preserved c =
    let lt : c.loop-i.i < length c.args.bytes.now = omega arith in
    let e : is_space (get_or c.args.bytes.now c.loop-i.i 0) ≡ true = grind (arith, common_steps) in
    space_more c.args.bytes.now c.loop-i.i lt e c.loop-i.invariant

pub returns-then-not-is_space : goal.returns-then-not-is_space
returns-then-not-is_space c = space_end c.args.bytes.now c.loop-i.i c.loop-i.invariant

pub returns : goal.returns
returns c = space_last c.args.bytes.now c.loop-i.i (omega arith) c.loop-i.invariant
