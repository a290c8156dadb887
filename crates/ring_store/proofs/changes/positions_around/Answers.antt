use Rattle.kit_words.proofs.Common.{◌∙◌, ap, map, get_or, length, arith, take_all}
use Rattle.vertex_index.specs.Common.{place}
use Rattle.ring_store.proofs.AroundPlan.{key_placed, around_is}
use Rattle.ring_store.proofs.changes.positions_around.Goals as goal

pub pos-requires : goal.pos-requires
pos-requires g c =
    key_placed c.args.tables.now.vertices c.args.tables.now.borders c.args.k c.new-keys.result.items c.push_neighbours.new.out.items c.in_ok-push_neighbours.ensures c.new-keys.ensures.items c.requires c.loop-x.x-index c.x-item.result
    (omega (arith, ap length c.as_slice-x-items.ensures.value))
    (c.x-item.is ∙ ap (λ z. get_or z c.loop-x.x-index c.x-item.result) c.as_slice-x-items.ensures.value)

pub returns : goal.returns
returns g c =
    around_is c.args.tables.now.vertices c.args.tables.now.borders c.args.k c.new-keys.result.items c.push_neighbours.new.out.items c.in_ok-push_neighbours.ensures c.new-keys.ensures.items c.loop-x.around.items
    (c.loop-x.invariant ∙ ap (map (place c.args.tables.now.vertices)) (take_all c.loop-x.x-index c.as_slice-x-items.result.now c.loop-x-test.false ∙ c.as_slice-x-items.ensures.value))
