use Rattle.kit_words.proofs.Common.{arith, ◌∙◌, ap, get_or, take}
use Rattle.ring_store.specs.Common.{None, noted_all, other_end, other_ends, SeesMore}
use Rattle.ring_store.specs.Neighbours.{ending}
use Rattle.arc_tables.specs.Common.{Edge, links}
use Rattle.ring_store.proofs.NeighbourLemmas.{ends_more}
use Rattle.ring_store.proofs.SeenLemmas.{sees_then}
use Rattle.ring_store.proofs.neighbours.see_path.Goals as goal

pub loop-at-preserved : goal.loop-at-preserved
loop-at-preserved g c = λ k.
    let path = c.args.path.now in
    let at = c.loop-at.at in
    let edge : Edge = (c.index-path-at.result, c.index-path-at-in-loop-at.result) in
    let both : SeesMore c.loop-at.table.items c.see-in-loop-at.new.table.items (λ j. other_end j edge) = sees_then c.loop-at.table.items c.see.new.table.items c.see-in-loop-at.new.table.items (ending edge.0 edge.1) (ending edge.1 edge.0) c.in_ok-see.ensures c.in_ok-see-2.ensures in
    sees_then c.args.table.now.items c.loop-at.table.items c.see-in-loop-at.new.table.items (λ j. other_ends j (links (take at path))) (λ j. other_end j edge) c.loop-at.invariant both k
    ∙ ap (noted_all (get_or c.args.table.now.items k None)) (ends_more k path at edge.0 edge.1 (omega arith) (omega arith) c.index-path-at.is c.index-path-at-in-loop-at.is)
