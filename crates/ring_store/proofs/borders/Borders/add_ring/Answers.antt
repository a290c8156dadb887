use Rattle.kit_words.proofs.Common.{◌≡◌, ap, sym, ◌∙◌, subst, ◌++◌, ◌∷◌, []}
use Rattle.std.specs.FinMap as map
use Rattle.arc_tables.specs.Common.{links, Grows, edges, store}
use Rattle.arc_tables.proofs.Common.{rings_grown, rings_kept, none_there, around}
use Rattle.ring_store.proofs.borders.Borders.add_ring.Goals as goal

pub returns-in-Ok-clause-new : goal.returns-in-Ok-clause-new
returns-in-Ok-clause-new g c = ap (λ m. map.get m c.in-Ok.r) (sym c.self.view_is) ∙ none_there c.self.inside.tables c.in-Ok.r c.in-Ok.ensures.vacant

pub returns-in-Ok-clause-ok : goal.returns-in-Ok-clause-ok
returns-in-Ok-clause-ok g c =
    let keys = c.args.keys.now in
    let is : links c.as_slice.result.now ≡ edges keys =
    around keys c.as_slice.result.now c.index-keys-0.result c.requires.some c.index-keys-0.is (c.as_slice.ensures.value ∙ c.in_ok-push.ensures.items ∙ ap (λ z. z ++ c.index-keys-0.result ∷ []) (c.in_ok-extend_from_slice.ensures.items ∙ ap (λ z. z ++ keys) c.in_ok-around.ensures.items)) in
    rings_grown c.self.inside.tables c.add_ring.new.self c.in-Ok.r (edges keys) c.in-Ok.ensures.vacant c.in-Ok.ensures.held
    (subst (λ es. Grows c.in-Ok.r es (store c.self.inside.tables) (store c.add_ring.new.self)) is c.in-Ok.ensures.ok)
    ∙ ap (λ m. map.insert m c.in-Ok.r (edges keys)) c.self.view_is

pub returns-clause-err : goal.returns-clause-err
returns-clause-err g c = rings_kept c.self.inside.tables c.add_ring.new.self c.in-Err.ensures.err_held c.in-Err.ensures.err ∙ c.self.view_is
