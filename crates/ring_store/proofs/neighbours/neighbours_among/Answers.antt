use Rattle.kit_words.proofs.Common.{ap, ◌∙◌, take}
use Rattle.slab.specs.Slab.{get}
use Rattle.ring_store.specs.Common.{None, noted_all, other_ends, ends_among}
use Rattle.arc_tables.specs.Common.{links, path_in}
use Rattle.ring_store.proofs.NeighbourLemmas.{among_more}
use Rattle.ring_store.proofs.neighbours.neighbours_among.Goals as goal

pub loop-i-preserved : goal.loop-i-preserved
loop-i-preserved g c =
    let k = c.args.k in
    c.with_path-all.ensures
    ∙ ap (λ n. noted_all n (other_ends k (links c.path_at.result.now))) c.loop-i.invariant
    ∙ ap (λ z. noted_all (noted_all None (ends_among (λ i. path_in (get c.args.arcs.now i)) (take c.loop-i.i-index c.args.among.now) k)) (other_ends k (links z))) c.path_at.ensures
    ∙ among_more k None (λ i. path_in (get c.args.arcs.now i)) c.args.among.now c.loop-i.i-index c.loop-i-test.true
