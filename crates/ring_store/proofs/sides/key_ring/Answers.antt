use Rattle.kit_words.proofs.Common.{◌∷◌, [], ◌++◌, ◌+◌, ◌∙◌, sym, ap, subst, take, arith, take_all, take_more}
use Rattle.vertex_index.specs.Common.{place}
use Rattle.ring_store.specs.Common.{ArePut}
use Rattle.ring_store.proofs.KeyedLists.{read_next, place_stays, put_at}
use Rattle.ring_store.proofs.Places.{place_is}
use Rattle.ring_store.proofs.Keys.{read_none, read_put, read_different}
use Rattle.ring_store.proofs.sides.key_ring.Goals as goal

pub loop-p-init : goal.loop-p-init
loop-p-init g c = record {
  read = read_none c.args.vertices.now c.args.keys.now.items c.args.ring.now c.requires.none;
  distinct = c.requires.distinct;
  room = omega (arith, c.requires.room);
}

pub loop-p-preserved : goal.loop-p-preserved
loop-p-preserved g c = record {
  read = read_next place (λ k. k ∷ []) place_stays c.args.vertices.now c.loop-p.vertices c.key_or_add.new.self c.loop-p.keys.items c.push_reserved.new.self.items
      (take c.loop-p.p-index c.args.ring.now) (take (c.loop-p.p-index + 1) c.args.ring.now) c.in_ok-k.k c.p-item.result c.push_reserved.ensures.items
      (take_more c.args.ring.now c.loop-p.p-index c.p-item.result c.loop-p-test.true ∙ ap (λ z. take c.loop-p.p-index c.args.ring.now ++ z ∷ []) (sym c.p-item.is))
      c.loop-p.invariant.read (place_is c.key_or_add.new.self c.in_ok-k.k c.p-item.result c.in_ok-k.ensures.held)
      (put_at c.loop-p.vertices c.key_or_add.new.self c.in_ok-k.k c.p-item.result c.in_ok-k.ensures.key c.in_ok-k.ensures.ok);
  distinct = c.key_or_add.ensures.distinct;
  room = omega (arith, c.loop-p.invariant.room, c.push_reserved.ensures.len, c.push_reserved.ensures.capacity);
}

pub returns-in_err-k-clause-put : goal.returns-in_err-k-clause-put
returns-in_err-k-clause-put g c =
    subst (λ z. ArePut c.args.vertices.now z c.loop-p.keys.items) (sym c.in_err-k.ensures.err)
    (read_put c.args.vertices.now c.loop-p.vertices c.loop-p.keys.items (take c.loop-p.p-index c.args.ring.now) c.loop-p.invariant.read)

pub returns-in_err-k-clause-different : goal.returns-in_err-k-clause-different
returns-in_err-k-clause-different g c =
    read_different c.args.vertices.now c.loop-p.vertices c.loop-p.keys.items c.loop-p.p-index c.args.ring.now c.loop-p.invariant.read c.requires.different

pub returns-clause-at : goal.returns-clause-at
returns-clause-at g c = c.loop-p.invariant.read.read ∙ take_all c.loop-p.p-index c.args.ring.now c.loop-p-test.false

pub returns-clause-put : goal.returns-clause-put
returns-clause-put g c =
    read_put c.args.vertices.now c.loop-p.vertices c.loop-p.keys.items (take c.loop-p.p-index c.args.ring.now) c.loop-p.invariant.read

pub returns-clause-different : goal.returns-clause-different
returns-clause-different g c =
    read_different c.args.vertices.now c.loop-p.vertices c.loop-p.keys.items c.loop-p.p-index c.args.ring.now c.loop-p.invariant.read c.requires.different
