use Rattle.kit_words.proofs.Common.{sym, subst, ap, ◌∙◌}
use Rattle.ring_store.specs.Common.{AreNeighbours, None, noted_all, ends_among}
use Rattle.arc_tables.specs.Common.{rings_of, path_of}
use Rattle.ring_store.proofs.JoinedLemmas.{neighbours_seen, each_used}
use Rattle.ring_store.proofs.borders.Borders.neighbours.Goals as goal

pub returns : goal.returns
returns g c =
    let t = c.self.inside.tables in
    subst (λ m. AreNeighbours m c.args.k c.neighbours_among.result) c.self.view_is
    (subst (AreNeighbours (rings_of t) c.args.k) (sym (c.neighbours_among.ensures ∙ ap (λ z. noted_all None (ends_among (path_of t) z c.args.k)) c.arcs_at.ensures)) (neighbours_seen t c.args.k (each_used t c.self.invariant.whole.known) c.self.invariant.whole.listed))
