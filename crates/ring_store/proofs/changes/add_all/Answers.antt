use Rattle.kit_words.proofs.Common.{◌∙◌, refl, subst, take, sym, take_all}
use Rattle.segment_index.specs.Common.{AreAmong}
use Rattle.ring_store.specs.Common.{GainsSegments}
use Rattle.ring_store.proofs.Planned.{gains_none, next_new, gained_more, gained_among, single_take, new_taken, came_and_went}
use Rattle.ring_store.proofs.changes.add_all.Goals as goal

pub add-requires : goal.add-requires
add-requires g c =
    next_new (g.I.SegIndex.held c.args.index.now) (g.I.SegIndex.held c.loop-at.index) c.args.segments.now c.loop-at.at c.index-segments-at.result c.requires.new c.requires.once c.loop-at-test.true c.index-segments-at.is c.loop-at.invariant.gained

pub loop-at-init : goal.loop-at-init
loop-at-init g c = record { gained = gains_none (g.I.SegIndex.held c.args.index.now); cells = refl }

pub loop-at-preserved : goal.loop-at-preserved
loop-at-preserved g c = record {
  gained = gained_more (g.I.SegIndex.held c.args.index.now) (g.I.SegIndex.held c.loop-at.index) (g.I.SegIndex.held c.add.new.self) c.args.segments.now c.loop-at.at c.index-segments-at.result c.loop-at-test.true c.index-segments-at.is c.loop-at.invariant.gained c.in_default.ensures.added;
  cells = c.add.ensures.cells ∙ c.loop-at.invariant.cells;
}

pub returns : goal.returns
returns g c = record {
  gained = subst (λ z. GainsSegments (g.I.SegIndex.held c.args.index.now) z (g.I.SegIndex.held c.loop-at.index)) (take_all c.loop-at.at c.args.segments.now c.loop-at-test.false) c.loop-at.invariant.gained;
  unchanged = tt;
  cells = c.loop-at.invariant.cells;
}

pub discard_all-requires-clause-once : goal.discard_all-requires-clause-once
discard_all-requires-clause-once g c = single_take c.args.segments.now c.loop-at.at c.requires.once

pub discard_all-requires-clause-held : goal.discard_all-requires-clause-held
discard_all-requires-clause-held g c =
    subst (λ h. AreAmong h (take c.loop-at.at c.args.segments.now)) (sym c.in-Err.ensures.unchanged) (gained_among (g.I.SegIndex.held c.args.index.now) (g.I.SegIndex.held c.loop-at.index) (take c.loop-at.at c.args.segments.now) c.loop-at.invariant.gained)

pub returns-in-Err-clause-unchanged : goal.returns-in-Err-clause-unchanged
returns-in-Err-clause-unchanged g c =
    came_and_went (g.I.SegIndex.held c.args.index.now) (g.I.SegIndex.held c.loop-at.index) (g.I.SegIndex.held c.discard_all.new.index) (take c.loop-at.at c.args.segments.now) (new_taken (g.I.SegIndex.held c.args.index.now) c.args.segments.now c.loop-at.at c.requires.new)
    c.loop-at.invariant.gained
    (rw c.in-Err.ensures.unchanged at c.discard_all.ensures.dropped)
