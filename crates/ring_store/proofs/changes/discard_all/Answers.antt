use Rattle.kit_words.proofs.Common.{◌∙◌, refl, subst, take_all}
use Rattle.ring_store.specs.Common.{Drops}
use Rattle.ring_store.proofs.Planned.{drops_none, next_held, dropped_more}
use Rattle.ring_store.proofs.changes.discard_all.Goals as goal

pub discard-requires : goal.discard-requires
discard-requires g c =
    next_held (g.I.SegIndex.held c.args.index.now) (g.I.SegIndex.held c.loop-s.index) c.args.segments.now c.loop-s.s-index c.s-item.result c.requires.held c.requires.once c.loop-s-test.true c.s-item.is c.loop-s.invariant.dropped

pub loop-s-init : goal.loop-s-init
loop-s-init g c = record { dropped = drops_none (g.I.SegIndex.held c.args.index.now); cells = refl }

pub loop-s-preserved : goal.loop-s-preserved
loop-s-preserved g c = record {
  dropped = dropped_more (g.I.SegIndex.held c.args.index.now) (g.I.SegIndex.held c.loop-s.index) (g.I.SegIndex.held c.discard.new.self) c.args.segments.now c.loop-s.s-index c.s-item.result c.loop-s-test.true c.s-item.is c.loop-s.invariant.dropped c.discard.ensures.removed;
  cells = c.discard.ensures.cells ∙ c.loop-s.invariant.cells;
}

pub returns : goal.returns
returns g c = record {
  dropped = subst (λ z. Drops (g.I.SegIndex.held c.args.index.now) z (g.I.SegIndex.held c.loop-s.index)) (take_all c.loop-s.s-index c.args.segments.now c.loop-s-test.false) c.loop-s.invariant.dropped;
  cells = c.loop-s.invariant.cells;
}
