use Rattle.kit_words.proofs.Common.{refl, ◌∙◌, subst, take_all}
use Rattle.feature_exchange.specs.Common.{numbers_of, AreGone}
use Rattle.feature_exchange.proofs.Numbered.{still_there, gone_none, gone_more}
use Rattle.feature_exchange.proofs.taking.take_out_each.Goals as goal

pub loop-ring-init : goal.loop-ring-init
loop-ring-init g c = record {
  stands = c.requires.stands;
  gone = gone_none c.args.borders.now;
  places = λ k p e. e;
  cells = refl;
}

pub take_out_ring-requires-clause-there : goal.take_out_ring-requires-clause-there
take_out_ring-requires-clause-there g c =
    still_there c.args.borders.now c.loop-ring.borders c.args.rings.now c.requires.there c.loop-ring.ring-index c.ring-item.result c.loop-ring-test.true c.ring-item.is
    c.loop-ring.invariant.gone c.as_slice.result.now c.as_slice.ensures.value

pub loop-ring-preserved : goal.loop-ring-preserved
loop-ring-preserved g c = record {
  stands = c.take_out_ring.ensures.stands;
  gone = gone_more c.args.borders.now c.loop-ring.borders c.take_out_ring.new.borders c.args.rings.now c.loop-ring.ring-index c.ring-item.result c.loop-ring-test.true c.ring-item.is
      c.loop-ring.invariant.gone c.take_out_ring.ensures.gone;
  places = λ k p e. c.loop-ring.invariant.places k p (c.take_out_ring.ensures.places k p e);
  cells = c.take_out_ring.ensures.cells ∙ c.loop-ring.invariant.cells;
}

pub returns-clause-gone : goal.returns-clause-gone
returns-clause-gone g c =
    subst (λ z. AreGone c.args.borders.now c.loop-ring.borders (numbers_of z)) (take_all c.loop-ring.ring-index c.args.rings.now c.loop-ring-test.false) c.loop-ring.invariant.gone
