use Rattle.kit_words.proofs.Common.{None, ap, ◌∙◌}
use Rattle.ring_store.specs.Common.{most, least_number, edge_counts}
use Rattle.ring_store.specs.Shortest.{rings_along}
use Rattle.ring_store.proofs.ShortestLemmas.{says_shortest}
use Rattle.ring_store.proofs.borders.Borders.shortest.Goals as goal

pub returns : goal.returns
returns g c =
    let t = c.self.inside.tables in
    let says = says_shortest t c.args.k c.self.invariant.whole most c.args.self.now c.shortest_among.result c.self.view_is
    (c.shortest_among.ensures ∙ ap (λ z. least_number None (edge_counts t.arcs t.rings (rings_along t.arcs z c.args.k))) c.arcs_at.ensures) in
    record { none = says.none; some = says.some; least = says.least }
