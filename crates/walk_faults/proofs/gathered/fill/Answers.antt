use Rattle.kit_words.proofs.Common.{◌∙◌, ap, take_all}
use Rattle.segment_index.specs.Common.{has}
use Rattle.segment_index.proofs.Common.{contains_none}
use Rattle.walk_faults.proofs.Filled.{none_before, one_more}
use Rattle.walk_faults.proofs.gathered.fill.Goals as goal

pub loop-segment-init : goal.loop-segment-init
loop-segment-init g c = λ t. contains_none (g.I.SegIndex.held c.args.index.now) t c.requires.empty

pub add-requires : goal.add-requires
add-requires g c =
    c.loop-segment.invariant c.segment-item.result
    ∙ none_before c.args.segments.now c.loop-segment.segment-index c.segment-item.result c.requires.ascending c.loop-segment-test.true c.segment-item.is

pub loop-segment-preserved : goal.loop-segment-preserved
loop-segment-preserved g c = λ t.
    one_more (g.I.SegIndex.held c.loop-segment.index) (g.I.SegIndex.held c.add.new.self) c.args.segments.now c.loop-segment.segment-index c.segment-item.result t
    c.loop-segment-test.true c.segment-item.is c.in_ok-add.ensures.added (c.loop-segment.invariant t)

pub returns : goal.returns
returns g c = record {
  ascending = c.requires.ascending;
  same = λ t. c.loop-segment.invariant t ∙ ap (λ ss. has ss t) (take_all c.loop-segment.segment-index c.args.segments.now c.loop-segment-test.false);
}
