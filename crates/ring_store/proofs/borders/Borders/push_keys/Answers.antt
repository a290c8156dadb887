use Rattle.kit_words.proofs.Common.{◌≡◌, ap, sym, ◌∙◌, subst, IfSome, OnOk, ◌++◌}
use Rattle.std.specs.FinMap as map
use Rattle.arc_tables.specs.Common.{begins}
use Rattle.arc_tables.proofs.Common.{held_ring, ring_here}
use Rattle.ring_store.proofs.borders.Borders.push_keys.Goals as goal

pub push_ring_keys-requires-clause-held : goal.push_ring_keys-requires-clause-held
push_ring_keys-requires-clause-held g c = held_ring c.self.inside.tables c.args.r (ap (λ m. map.contains_key m c.args.r) c.self.view_is ∙ c.requires)

pub returns : goal.returns
returns g c =
    let held = held_ring c.self.inside.tables c.args.r (ap (λ m. map.contains_key m c.args.r) c.self.view_is ∙ c.requires) in
    subst (λ o. OnOk c.push_ring_keys.result (IfSome o (λ es. c.push_ring_keys.new.out.items ≡ c.args.out.now.items ++ begins es))) (sym (ring_here c.self.inside.tables c.args.r held) ∙ ap (λ m. map.get m c.args.r) c.self.view_is) c.push_ring_keys.ensures
