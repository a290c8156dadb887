use Rattle.kit_words.proofs.Common.{subst}
use Rattle.ring_store.specs.Common.{SeesMore, ends_in, AreAllNeighbours}
use Rattle.slab.specs.Slab.{entries}
use Rattle.ring_store.proofs.JoinedLemmas.{each_used}
use Rattle.ring_store.proofs.SeenLemmas.{all_seen}
use Rattle.ring_store.proofs.borders.Borders.all_neighbours.Goals as goal

pub returns : goal.returns
returns g c =
    let t = c.self.inside.tables in
    let table = c.see_arcs.new.table.items in
    subst (λ m. AreAllNeighbours m table) c.self.view_is
    (all_seen t (each_used t c.self.invariant.whole.known) table (subst (λ was. SeesMore was table (λ j. ends_in (entries t.arcs) j)) c.in_ok-table.ensures.items c.in_ok-see_arcs.ensures))
