use Rattle.kit_words.proofs.Common.{Some, subst, arith, All, take_all}
use Rattle.map_features.specs.Common.{IsWithin}
use Rattle.map_features.proofs.WithinLemmas.{all_more}
use Rattle.map_features.proofs.extents.with_ring.Goals as goal

pub loop-pos-init : goal.loop-pos-init
loop-pos-init c = record { new = λ k d l. absurd (omega arith); kept = λ p h. h }

pub loop-pos-preserved : goal.loop-pos-preserved
loop-pos-preserved c = record {
  new = all_more (IsWithin c.loop-pos.bounds) (IsWithin (Some c.widened.result)) c.widened.ensures.kept c.args.ring.now c.loop-pos.pos-index c.pos-item.result c.loop-pos-test.true c.pos-item.is c.loop-pos.invariant.new c.widened.ensures.new;
  kept = λ p h. c.widened.ensures.kept p (c.loop-pos.invariant.kept p h);
}

pub returns-clause-new : goal.returns-clause-new
returns-clause-new c = subst (All (IsWithin c.loop-pos.bounds)) (take_all c.loop-pos.pos-index c.args.ring.now c.loop-pos-test.false) c.loop-pos.invariant.new

pub returns-clause-kept : goal.returns-clause-kept
returns-clause-kept c = c.loop-pos.invariant.kept
