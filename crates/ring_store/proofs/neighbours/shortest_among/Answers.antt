use Rattle.kit_words.proofs.Common.{ℕ, ap, ◌∙◌, map, get_or, None}
use Rattle.slab.specs.Slab.{get}
use Rattle.ring_store.specs.Common.{most, edge_count, least_number, users_at}
use Rattle.arc_tables.specs.Common.{path_in, users_in, uses_in}
use Rattle.ring_store.proofs.ShortestLemmas.{among_least}
use Rattle.ring_store.proofs.neighbours.shortest_among.Goals as goal

pub loop-i-preserved : goal.loop-i-preserved
loop-i-preserved g c =
    let count : ℕ → ℕ = λ r. edge_count most (λ i. path_in (get c.args.arcs.now i)) (uses_in (get c.args.rings.now r)) in
    c.shortest_at-least.ensures
    ∙ ap (λ o. least_number o (map count (users_at (λ j. path_in (get c.args.arcs.now j)) (λ j. users_in (get c.args.arcs.now j)) c.args.k (get_or c.args.among.now c.loop-i.i-index 0)))) c.loop-i.invariant
    ∙ among_least count None (λ j. path_in (get c.args.arcs.now j)) (λ j. users_in (get c.args.arcs.now j)) c.args.k c.args.among.now c.loop-i.i-index c.loop-i-test.true
