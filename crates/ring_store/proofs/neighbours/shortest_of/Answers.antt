use Rattle.kit_words.proofs.Common.{ℕ, ap, ◌∙◌, take, map}
use Rattle.slab.specs.Slab.{get}
use Rattle.ring_store.specs.Common.{most, edge_count, less_of, least_number}
use Rattle.arc_tables.specs.Common.{path_in, uses_in}
use Rattle.ring_store.proofs.ShortestLemmas.{least_more}
use Rattle.ring_store.proofs.neighbours.shortest_of.Goals as goal

pub loop-r-preserved : goal.loop-r-preserved
loop-r-preserved g c =
    let count : ℕ → ℕ = λ r. edge_count most (λ i. path_in (get c.args.arcs.now i)) (uses_in (get c.args.rings.now r)) in
    c.less_of-least.ensures
    ∙ ap (λ o. less_of o c.edge_count.result) c.loop-r.invariant
    ∙ ap (λ n. less_of (least_number c.args.best (map count (take c.loop-r.r-index c.args.users.now))) n) (c.edge_count.ensures ∙ ap (λ us. edge_count most (λ i. path_in (get c.args.arcs.now i)) us) c.uses_at.ensures)
    ∙ least_more count c.args.best c.args.users.now c.loop-r.r-index c.loop-r-test.true
