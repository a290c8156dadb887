use Rattle.layer_faces.proofs.Apart.{pushed_first, pushed_other, taken_other, taken_short}
use Rattle.layer_faces.proofs.holders.push_to.Goals as goal
use Rattle.layer_faces.proofs.holders.push_to.Goals.{in_default-via-then-above-lt1, in_default-via-in-len1-up+else-first-n}

pub returns-in-len1-up : goal.returns-in-len1-up
returns-in-len1-up g c more =
    pushed_first c.args.n c.count_below.result more c.args.others.now c.split_at.result.0.now c.split_at.result.1.now c.args.found.now.items _
    c.count_below.ensures.value c.split_at.ensures.front c.split_at.ensures.back c.in_ok-extend_from_slice.ensures.items
    c.in-len1-up.len_at_least c.if-first-n.true

pub returns-in_ok-push-in_default : goal.returns-in_ok-push-in_default
returns-in_ok-push-in_default g c more =
    pushed_other c.args.n c.count_below.result more c.args.others.now c.split_at.result.0.now c.split_at.result.1.now c.args.found.now.items _
    c.count_below.ensures.value c.split_at.ensures.front c.split_at.ensures.back c.in_ok-extend_from_slice.ensures.items
    _ c.in_ok-push-in_default.ensures.items
    (elim c.in_default.branch [
      | in_default-via-then-above-lt1 w ↦ taken_short c.args.n more c.split_at.result.1.now w.if-above-lt1-1.true
      | in_default-via-in-len1-up+else-first-n w ↦ taken_other c.args.n more c.split_at.result.1.now w.if-first-n.false
    ])
