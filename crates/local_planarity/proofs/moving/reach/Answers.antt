use Rattle.kit_words.proofs.Common.{◌∷◌, ◌∙◌, [], ap, arith, subst, sym, take_all}
use Rattle.segment_index.specs.Common.{box_around, LieIn}
use Rattle.segment_index.proofs.Common.{lie-one}
use Rattle.local_planarity.proofs.NearMoves.{reach_more}
use Rattle.local_planarity.proofs.moving.reach.Goals as goal

pub loop-s-init : goal.loop-s-init
loop-s-init c = subst (λ r. LieIn r (c.args.way ∷ [])) (sym c.rect-rect.ensures) (lie-one c.args.way (c.args.way ∷ []) (λ t. omega arith))

pub loop-s-preserved : goal.loop-s-preserved
loop-s-preserved c =
    reach_more c.args.way c.args.segments.now c.loop-s.s-index c.s-item.result c.loop-s.rect c.widen.new.bounds c.loop-s-test.true c.s-item.is
    (c.widen.ensures ∙ ap (box_around c.loop-s.rect) c.rect.ensures) c.loop-s.invariant

pub returns : goal.returns
returns c = subst (λ ss. LieIn c.loop-s.rect (c.args.way ∷ ss)) (take_all c.loop-s.s-index c.args.segments.now c.loop-s-test.false) c.loop-s.invariant
