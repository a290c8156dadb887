use Rattle.kit_words.proofs.Common.{◌∙◌, sym, ap, ◌++◌, ◌∷◌, [], false≢true, mapped_more}
use Rattle.grid_geometry.specs.Common.{segment, position_eq}
use Rattle.ring_machine.proofs.Common.{position_eq-refl}
use Rattle.ring_store.proofs.Planned.{any_at}
use Rattle.ring_store.proofs.changes.spokes.Goals as goal

-- no position is p
pub push_segment-requires : goal.push_segment-requires
push_segment-requires g c = λ e.
    false≢true (sym c.requires ∙ any_at (position_eq c.args.p) c.args.around.now c.loop-x.x-index c.x-item.result c.loop-x-test.true (ap (position_eq c.args.p) (sym c.x-item.is ∙ e) ∙ position_eq-refl c.args.p))

pub loop-x-preserved : goal.loop-x-preserved
loop-x-preserved g c =
    c.in_ok-push_segment.ensures ∙ ap (λ y. y ++ segment c.x-item.result c.args.p ∷ []) c.loop-x.invariant
    ∙ sym (mapped_more (λ x. segment x c.args.p) c.args.around.now c.loop-x.x-index c.x-item.result c.loop-x-test.true c.x-item.is)
