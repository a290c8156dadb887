use Rattle.kit_words.proofs.Common.{sym, subst, take, drop, ◌+◌, arith}
use Rattle.ring_store.specs.Common.{AreKeyed}
use Rattle.ring_store.proofs.PuttingBack.{one_more_keyed, next_placeable, placeable_after}
use Rattle.ring_store.proofs.changes.place_all.Goals as goal

pub forget_all-requires : goal.forget_all-requires
forget_all-requires g c =
    let old = c.args.vertices.now in
    let done = take c.loop-r.r-index c.args.removals.now in (
      old,
      done,
      subst (λ z. AreKeyed old done z c.place_one.new.vertices) (sym c.as_slice.ensures.value)
          (subst (AreKeyed old done c.loop-r.placed.items) (sym c.in-Err.ensures.unchanged) c.loop-r.invariant.keyed),
    )

pub loop-r-preserved : goal.loop-r-preserved
loop-r-preserved g c =
    let now = c.loop-r.vertices in
    let new = c.place_one.new.vertices in
    let removals = c.args.removals.now in
    let at = c.loop-r.r-index in
    let r = c.r-item.result in
    record {
      keyed = one_more_keyed c.args.vertices.now now new removals at r c.loop-r.placed.items c.push_reserved.new.self.items c.in-Ok.put
          c.loop-r-test.true c.r-item.is c.loop-r.invariant.keyed c.in-Ok.ensures.keyed c.push_reserved.ensures.items;
      left = placeable_after now new r (drop (at + 1) removals) c.in-Ok.put (next_placeable now removals at r c.loop-r-test.true c.r-item.is c.loop-r.invariant.left) c.in-Ok.ensures.keyed;
      room = omega (arith, c.loop-r.invariant.room, c.push_reserved.ensures.len, c.push_reserved.ensures.capacity);
    }
