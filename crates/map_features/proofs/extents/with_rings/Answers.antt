use Rattle.kit_words.proofs.Common.{subst, arith, All, take_all}
use Rattle.map_features.specs.Common.{IsWithin, RingIn}
use Rattle.map_features.proofs.WithinLemmas.{all_more, ring_stays}
use Rattle.map_features.proofs.extents.with_rings.Goals as goal

pub loop-ring-init : goal.loop-ring-init
loop-ring-init g c = record { new = λ k d l. absurd (omega arith); kept = λ p h. h }

pub loop-ring-preserved : goal.loop-ring-preserved
loop-ring-preserved g c =
    let new = c.with_ring-bounds.result in
    record {
      new =
          all_more (RingIn c.loop-ring.bounds) (RingIn new) (ring_stays c.loop-ring.bounds new c.with_ring-bounds.ensures.kept) c.args.rings.now c.loop-ring.ring-index c.ring-item.result c.loop-ring-test.true c.ring-item.is c.loop-ring.invariant.new
          (subst (All (IsWithin new)) c.as_slice.ensures.value c.with_ring-bounds.ensures.new);
      kept = λ p h. c.with_ring-bounds.ensures.kept p (c.loop-ring.invariant.kept p h);
    }

pub returns-clause-new : goal.returns-clause-new
returns-clause-new g c = subst (All (RingIn c.loop-ring.bounds)) (take_all c.loop-ring.ring-index c.args.rings.now c.loop-ring-test.false) c.loop-ring.invariant.new

pub returns-clause-kept : goal.returns-clause-kept
returns-clause-kept g c = c.loop-ring.invariant.kept
