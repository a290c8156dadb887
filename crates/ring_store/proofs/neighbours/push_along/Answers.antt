use Rattle.kit_words.proofs.Common.{arith, ap, ◌∙◌, take}
use Rattle.arc_tables.specs.Common.{links}
use Rattle.ring_store.specs.Common.{other_end, other_ends, gathered}
use Rattle.ring_store.proofs.NeighbourLemmas.{ends_more}
use Rattle.ring_store.proofs.Gathering.{gathered-append}
use Rattle.ring_store.proofs.neighbours.push_along.Goals as goal

pub loop-at-preserved : goal.loop-at-preserved
loop-at-preserved g c =
    let k = c.args.k in
    let path = c.args.path.now in
    let old = c.args.out.now.items in
    let edge = other_end k (c.index-path-at.result, c.index-path-at-in-loop-at.result) in
    let before = other_ends k (links (take c.loop-at.at path)) in
    c.in_ok-push_edge.ensures
    ∙ ap (λ z. gathered c.args.from z edge) c.loop-at.invariant
    ∙ gathered-append c.args.from old before edge c.requires
    ∙ ap (gathered c.args.from old) (ends_more k path c.loop-at.at _ _ (omega arith) (omega arith) c.index-path-at.is c.index-path-at-in-loop-at.is)
