use Rattle.kit_words.proofs.Common.{◌<◌, length, arith}
use Rattle.arc_tables.specs.Common.{onto}
use Rattle.arc_tables.proofs.Removing.{put_step}
use Rattle.arc_tables.proofs.editing.move_keys.Goals as goal

pub loop-k-preserved : goal.loop-k-preserved
loop-k-preserved c =
    let within : c.loop-k.k-index < length c.args.keys.now = omega arith in
    put_step (onto c.args.p c.args.b) c.args.keys.now c.loop-k.keys c.loop-k.k-index c.k-item.result c.moved.result within c.loop-k.invariant c.moved.ensures
