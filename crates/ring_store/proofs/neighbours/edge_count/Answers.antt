use Rattle.kit_words.proofs.Common.{ℕ, ◌+◌, ◌-◌, ap, ◌∙◌, take, length, false, min}
use Rattle.slab.specs.Slab.{get}
use Rattle.ring_store.specs.Common.{most, edge_count}
use Rattle.arc_tables.specs.Common.{path_in}
use Rattle.ring_store.proofs.ShortestLemmas.{count_more}
use Rattle.ring_store.proofs.neighbours.edge_count.Goals as goal

pub loop-u-preserved : goal.loop-u-preserved
loop-u-preserved g c =
    let path : ℕ → _ = λ i. path_in (get c.args.arcs.now i) in
    c.saturating_add-count.ensures
    ∙ ap (λ n. min (n + c.saturating_sub.result) most) c.loop-u.invariant
    ∙ ap (λ n. min (edge_count most path (take c.loop-u.u-index c.args.uses.now) + n) most) (c.saturating_sub.ensures ∙ ap (λ z. length z - 1) c.path_at.ensures)
    ∙ count_more most path c.args.uses.now c.loop-u.u-index (record { arc = 0; back = false }) c.loop-u-test.true
