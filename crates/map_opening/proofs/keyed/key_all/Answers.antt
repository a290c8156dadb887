use Rattle.kit_words.proofs.Common.{◌+◌, ◌∙◌, ap, subst, take, take_all, mapped_more}
use Rattle.ring_machine.specs.Common.{is_ring}
use Rattle.ring_machine.proofs.Common.{contains_in, all_in, ring_distinct}
use Rattle.ring_parts.specs.Common.{rings_seen}
use Rattle.ring_store.proofs.Common.{read_next, keyed_at, ring_stays, at_contains, map_pushed}
use Rattle.map_opening.specs.Common.{lists_seen, IsKeyed}
use Rattle.map_opening.proofs.KeyedRings.{none_distinct, none_read, read_keyed}
use Rattle.map_opening.proofs.keyed.key_all.Goals as goal

pub loop-ring-init : goal.loop-ring-init
loop-ring-init g c = record {
  read = none_read c.args.vertices.now (lists_seen c.new-keyed.result.items) (ap lists_seen c.new-keyed.ensures.items);
  distinct = none_distinct c.args.vertices.now c.requires.empty;
}

pub key_ring-requires-clause-different : goal.key_ring-requires-clause-different
key_ring-requires-clause-different g c =
    ring_distinct c.as_slice.result.now
    (all_in is_ring (rings_seen c.args.rings.now) c.as_slice.result.now c.requires.rings
    (contains_in (rings_seen c.args.rings.now) c.as_slice.result.now
    (at_contains (λ ring. ring.items) c.args.rings.now c.loop-ring.ring-index c.ring-item.result c.as_slice.result.now c.loop-ring-test.true c.ring-item.is c.as_slice.ensures.value)))

pub loop-ring-preserved : goal.loop-ring-preserved
loop-ring-preserved g c = record {
  read = read_next keyed_at (λ keys. keys) ring_stays c.args.vertices.now c.loop-ring.vertices c.key_ring.new.vertices
      (lists_seen c.loop-ring.keyed.items) (lists_seen c.push.new.self.items)
      (rings_seen (take c.loop-ring.ring-index c.args.rings.now)) (rings_seen (take (c.loop-ring.ring-index + 1) c.args.rings.now))
      c.key_ring.new.keys.items c.ring-item.result.items
      (map_pushed (λ keys. keys.items) c.loop-ring.keyed.items c.push.new.self.items c.key_ring.new.keys c.in_ok-push.ensures.items)
      (mapped_more (λ ring. ring.items) c.args.rings.now c.loop-ring.ring-index c.ring-item.result c.loop-ring-test.true c.ring-item.is)
      c.loop-ring.invariant.read (c.in_ok-key_ring.ensures.at ∙ c.as_slice.ensures.value) c.key_ring.ensures.put;
  distinct = c.key_ring.ensures.distinct;
}

pub returns-clause-keyed : goal.returns-clause-keyed
returns-clause-keyed g c =
    subst (λ z. IsKeyed c.loop-ring.vertices (rings_seen z) (lists_seen c.loop-ring.keyed.items)) (take_all c.loop-ring.ring-index c.args.rings.now c.loop-ring-test.false)
    (read_keyed c.args.vertices.now c.loop-ring.vertices (lists_seen c.loop-ring.keyed.items) (rings_seen (take c.loop-ring.ring-index c.args.rings.now)) c.requires.empty c.loop-ring.invariant.read)
