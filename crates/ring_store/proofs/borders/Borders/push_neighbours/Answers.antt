use Rattle.kit_words.proofs.Common.{arith, ◌≡◌, ◌∙◌, ap, subst, List, ℕ, length}
use Rattle.ring_store.specs.Common.{ends_among, ListsJoined, gathered}
use Rattle.arc_tables.specs.Common.{path_of, stand_at}
use Rattle.arc_tables.proofs.Common.{on_ok_map}
use Rattle.ring_store.proofs.JoinedLemmas.{each_used, lists_joined}
use Rattle.ring_store.proofs.borders.Borders.push_neighbours.Goals as goal

pub returns : goal.returns
returns g c =
    let t = c.self.inside.tables in
    let old = c.args.out.now.items in
    let ends : List ℕ → List ℕ = λ among. ends_among (path_of t) among c.args.k in
    let all : c.len-from.result ≡ length old = omega (arith, c.len-from.ensures, c.args.out.now.ok.0) in
    let list : c.push_among.new.out.items ≡ gathered c.len-from.result old (ends c.arcs_at-among.result.now) → ListsJoined c.args.self.now c.args.k old c.push_among.new.out.items = λ e.
    let is : c.push_among.new.out.items ≡ gathered (length old) old (ends (stand_at t.stands.items c.args.k)) = e ∙ ap (λ n. gathered n old (ends c.arcs_at-among.result.now)) all ∙ ap (λ z. gathered (length old) old (ends z)) c.arcs_at-among.ensures in
    subst (λ m. ListsJoined m c.args.k old c.push_among.new.out.items) c.self.view_is
    (lists_joined t c.args.k old c.push_among.new.out.items (each_used t c.self.invariant.whole.known) c.self.invariant.whole.listed is) in
    on_ok_map c.push_among.result list c.push_among.ensures
