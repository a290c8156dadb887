use Rattle.kit_words.proofs.Common.{sym, subst}
use Rattle.segment_paths.specs.Common.{IsRound}
use Rattle.segment_paths.proofs.round.Round.part_near.Goals as goal
use Rattle.segment_paths.proofs.round.Round.part_near.Goals.{then-conflict+in_ok-part_links, else-conflict}

pub loop-other-preserved : goal.loop-other-preserved
loop-other-preserved g c before =
    let so_far = c.loop-other.invariant before in
    elim c.if-conflict.branch [
      | then-conflict+in_ok-part_links w ↦ subst (IsRound c.args.ways.now) (sym w.self-is) (w.in_ok-part_links.ensures so_far)
      | else-conflict w ↦ subst (IsRound c.args.ways.now) (sym w.self-is) so_far
    ]
