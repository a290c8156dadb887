use Rattle.kit_words.proofs.Common.{◌≡◌, ℕ, true, sym, ap, ◌∙◌, subst, map, Contains}
use Rattle.std.specs.FinMap as table
use Rattle.ring_machine.specs.Common.{canonical}
use Rattle.vertex_index.specs.Common.{place}
use Rattle.feature_exchange.proofs.PolygonsRead.{keys_found}
use Rattle.feature_exchange.proofs.reading.ring_positions.Goals as goal

pub positions_under-requires : goal.positions_under-requires
positions_under-requires g c =
    subst (λ ks. (k : ℕ) → Contains ks k → table.contains_key c.args.tables.now.vertices k ≡ true)
    (sym (c.as_slice.ensures.value ∙ keys_found c.args.tables.now.borders c.args.r c.requires.held c.in_ok-keys.keys.items c.push_keys.new.out.items c.in_ok-keys.ensures.items c.in_ok-push_keys.ensures))
    (c.requires.along c.args.r)

pub returns : goal.returns
returns g c =
    c.begun.ensures
    ∙ ap canonical (c.in_ok-found.ensures
    ∙ ap (map (place c.args.tables.now.vertices)) (c.as_slice.ensures.value ∙ keys_found c.args.tables.now.borders c.args.r c.requires.held c.in_ok-keys.keys.items c.push_keys.new.out.items c.in_ok-keys.ensures.items c.in_ok-push_keys.ensures))
