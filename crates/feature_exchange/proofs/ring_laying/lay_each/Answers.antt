use Rattle.kit_words.proofs.Common.{◌+◌, ◌∙◌, refl, ap, take, map, arith, take_all, mapped_more}
use Rattle.vertex_index.specs.Common.{place}
use Rattle.ring_machine.specs.Common.{is_ring}
use Rattle.ring_machine.proofs.Common.{contains_in, all_in}
use Rattle.ring_store.proofs.Common.{at_contains}
use Rattle.feature_exchange.proofs.Series.{there_none, added_first, there_more, added_more, at_more}
use Rattle.feature_exchange.proofs.ring_laying.lay_each.Goals as goal

pub loop-ring-init : goal.loop-ring-init
loop-ring-init g c = record {
  stands = c.requires.stands;
  there = there_none c.args.borders.now c.args.laid.now.items c.requires.none;
  added = added_first c.args.borders.now c.args.laid.now.items c.requires.none;
  at = ap (map (λ ring. map (place c.args.vertices.now) ring.keys.items)) c.requires.none;
  kept = λ k p e. e;
  room = omega (arith, c.requires.room);
  cells = refl;
}

pub lay_ring-requires-clause-ring : goal.lay_ring-requires-clause-ring
lay_ring-requires-clause-ring g c =
    all_in is_ring (map (λ ring. ring.items) c.args.rings.now) c.as_slice.result.now c.requires.rings
    (contains_in (map (λ ring. ring.items) c.args.rings.now) c.as_slice.result.now
    (at_contains (λ ring. ring.items) c.args.rings.now c.loop-ring.ring-index c.ring-item.result c.as_slice.result.now c.loop-ring-test.true c.ring-item.is c.as_slice.ensures.value))

pub loop-ring-preserved : goal.loop-ring-preserved
loop-ring-preserved g c = record {
  stands = c.lay_ring.ensures.stands;
  there = there_more c.args.borders.now c.loop-ring.borders c.lay_ring.new.borders c.loop-ring.laid.items c.push_reserved.new.self.items c.in_ok-one.one
      c.push_reserved.ensures.items c.loop-ring.invariant.there c.in_ok-one.ensures.free c.in_ok-one.ensures.ok;
  added = added_more c.args.borders.now c.loop-ring.borders c.lay_ring.new.borders c.loop-ring.laid.items c.push_reserved.new.self.items c.in_ok-one.one
      c.push_reserved.ensures.items c.loop-ring.invariant.there c.in_ok-one.ensures.free c.in_ok-one.ensures.ok c.loop-ring.invariant.added;
  at = at_more c.loop-ring.vertices c.lay_ring.new.vertices c.loop-ring.borders (g.I.SegIndex.held c.loop-ring.index) c.loop-ring.invariant.stands c.lay_ring.ensures.kept
      c.loop-ring.laid.items c.push_reserved.new.self.items c.in_ok-one.one c.push_reserved.ensures.items c.loop-ring.invariant.there
      (map (λ ring. ring.items) (take c.loop-ring.ring-index c.args.rings.now)) (map (λ ring. ring.items) (take (c.loop-ring.ring-index + 1) c.args.rings.now)) c.ring-item.result.items
      (mapped_more (λ ring. ring.items) c.args.rings.now c.loop-ring.ring-index c.ring-item.result c.loop-ring-test.true c.ring-item.is)
      c.loop-ring.invariant.at (c.in_ok-one.ensures.at ∙ c.as_slice.ensures.value);
  kept = λ k p e. c.lay_ring.ensures.kept k p (c.loop-ring.invariant.kept k p e);
  room = omega (arith, c.loop-ring.invariant.room, c.push_reserved.ensures.len, c.push_reserved.ensures.capacity);
  cells = c.lay_ring.ensures.cells ∙ c.loop-ring.invariant.cells;
}

pub returns-clause-at : goal.returns-clause-at
returns-clause-at g c =
    c.loop-ring.invariant.at ∙ ap (map (λ ring. ring.items)) (take_all c.loop-ring.ring-index c.args.rings.now c.loop-ring-test.false)
