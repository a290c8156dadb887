use Rattle.kit_words.proofs.Common.{◌≡◌, ℕ, get_or}
use Rattle.slab.specs.Slab.{entries}
use Rattle.ring_store.specs.Common.{None, noted_all, ends_in}
use Rattle.ring_store.proofs.neighbours.see_arcs.Given as goal

-- with the entries that are left, all are seen
abbrev pub invariant-loop-arc : goal.invariant-loop-arc
invariant-loop-arc g l =
    (goal.iterator-loop-arc g).can_next l.arc-iterator
    × (goal.iterator-loop-arc g).is_finite l.arc-iterator
    × ((j : ℕ) → noted_all (get_or l.table.items j None) (ends_in l.arc-iterator j) ≡ noted_all (get_or l.fn.table.items j None) (ends_in (entries l.arcs) j))
