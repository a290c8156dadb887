use Rattle.kit_words.proofs.Common.{arith, ap, ◌∙◌}
use Rattle.ring_store.specs.Common.{noted_all, other_end}
use Rattle.ring_store.proofs.NeighbourLemmas.{path_more}
use Rattle.ring_store.proofs.neighbours.with_path.Goals as goal

pub loop-at-preserved : goal.loop-at-preserved
loop-at-preserved c =
    c.with_edge-all.ensures ∙ ap (λ n. noted_all n (other_end c.args.k (c.index-path-at.result, c.index-path-at-in-loop-at.result))) c.loop-at.invariant
    ∙ path_more c.args.k c.args.seen c.args.path.now c.loop-at.at _ _ (omega arith) (omega arith) c.index-path-at.is c.index-path-at-in-loop-at.is
