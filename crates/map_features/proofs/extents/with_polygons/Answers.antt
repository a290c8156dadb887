use Rattle.kit_words.proofs.Common.{subst, arith, All, take_all}
use Rattle.map_features.specs.Common.{RingIn, RingsIn, AreWithin}
use Rattle.map_features.proofs.WithinLemmas.{all_more, rings_stay}
use Rattle.map_features.proofs.extents.with_polygons.Goals as goal

pub loop-rings-init : goal.loop-rings-init
loop-rings-init g c = record { new = λ k d l. absurd (omega arith); kept = λ p h. h }

pub loop-rings-preserved : goal.loop-rings-preserved
loop-rings-preserved g c =
    let new = c.with_rings-bounds.result in
    record {
      new =
          all_more (RingsIn c.loop-rings.bounds) (RingsIn new) (rings_stay c.loop-rings.bounds new c.with_rings-bounds.ensures.kept) c.args.polygons.now c.loop-rings.rings-index c.rings-item.result c.loop-rings-test.true c.rings-item.is c.loop-rings.invariant.new
          (subst (All (RingIn new)) c.as_slice.ensures.value c.with_rings-bounds.ensures.new);
      kept = λ p h. c.with_rings-bounds.ensures.kept p (c.loop-rings.invariant.kept p h);
    }

pub returns-clause-new : goal.returns-clause-new
returns-clause-new g c = subst (AreWithin c.loop-rings.bounds) (take_all c.loop-rings.rings-index c.args.polygons.now c.loop-rings-test.false) c.loop-rings.invariant.new

pub returns-clause-kept : goal.returns-clause-kept
returns-clause-kept g c = c.loop-rings.invariant.kept
