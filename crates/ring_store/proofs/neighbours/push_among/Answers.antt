use Rattle.kit_words.proofs.Common.{ap, ◌∙◌, take, ◌++◌, ℕ, List}
use Rattle.slab.specs.Slab.{get}
use Rattle.arc_tables.specs.Common.{links, path_in}
use Rattle.ring_store.specs.Common.{other_ends, ends_among, gathered}
use Rattle.ring_store.proofs.NeighbourLemmas.{ends_among_more}
use Rattle.ring_store.proofs.Gathering.{gathered-append}
use Rattle.ring_store.proofs.neighbours.push_among.Goals as goal

pub loop-i-preserved : goal.loop-i-preserved
loop-i-preserved g c =
    let k = c.args.k in
    let path : ℕ → List ℕ = λ i. path_in (get c.args.arcs.now i) in
    let old = c.args.out.now.items in
    let before = ends_among path (take c.loop-i.i-index c.args.among.now) k in
    let arc = other_ends k (links c.path_at.result.now) in
    c.in_ok-push_along.ensures
    ∙ ap (λ z. gathered c.args.from z arc) c.loop-i.invariant
    ∙ gathered-append c.args.from old before arc c.requires
    ∙ ap (λ z. gathered c.args.from old (before ++ other_ends k (links z))) c.path_at.ensures
    ∙ ap (gathered c.args.from old) (ends_among_more k path c.args.among.now c.loop-i.i-index c.loop-i-test.true)
