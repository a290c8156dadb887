use Rattle.kit_words.proofs.Common.{subst, true}
use Rattle.segment_index.specs.Common.{Gives, times_by}
use Rattle.local_planarity.specs.Common.{tried}
use Rattle.local_planarity.proofs.Nearby.{near_given}
use Rattle.local_planarity.proofs.Searches.{searched_none, searched_more, searched_few, searched_all, searched_counted}
use Rattle.local_planarity.proofs.Counts.{IsFound}
use Rattle.local_planarity.proofs.conflicts.first_conflict.Goals as goal

pub loop-at-init : goal.loop-at-init
loop-at-init g c =
    searched_none (g.I.SegIndex.held c.args.index.now) (times_by (g.I.SegIndex.cells c.args.index.now)) c.args.leaving c.args.added.now c.args.tests.now c.requires

pub loop-at-preserved : goal.loop-at-preserved
loop-at-preserved g c =
    let held = g.I.SegIndex.held c.args.index.now in
    let times = times_by (g.I.SegIndex.cells c.args.index.now) in
    let s = c.index-added-at.result in
    let given = c.candidates.new.out.items in
    let one = c.first_staying-first.ensures in
    let two = c.first_against-first.ensures in
    searched_more held times c.args.leaving c.args.added.now c.args.tests.now c.loop-at.at s (tried c.args.leaving s given)
    c.loop-at.first c.first_staying-first.result c.first_against-first.result c.loop-at.tests c.first_staying-first.new.tests c.first_against-first.new.tests
    c.loop-at-test.true c.index-added-at.is
    (near_given held times c.args.leaving s c.clear.new.self.items given c.clear.ensures.items
    (subst (λ r. Gives held times r c.clear.new.self.items given true) c.rect.ensures c.in_ok-candidates.ensures))
    (subst (λ z. IsFound s (tried c.args.leaving s z) c.loop-at.first c.loop-at.tests c.first_staying-first.result c.first_staying-first.new.tests) c.as_slice.ensures.value
    (record { first = one.first; few = one.few; counted = one.counted }))
    (record { first = two.first; few = two.few; counted = two.counted }) c.loop-at.invariant

pub returns : goal.returns
returns g c =
    let held = g.I.SegIndex.held c.args.index.now in
    let times = times_by (g.I.SegIndex.cells c.args.index.now) in
    record {
      first = searched_all held times c.args.leaving c.args.added.now c.args.tests.now c.loop-at.at c.loop-at.first c.loop-at.tests c.loop-at.invariant c.loop-at.auto.at-end c.loop-at-test.false;
      few = searched_few held times c.args.leaving c.args.added.now c.args.tests.now c.loop-at.at c.loop-at.first c.loop-at.tests c.loop-at.invariant c.loop-at.auto.at-end;
      counted = searched_counted held times c.args.leaving c.args.added.now c.args.tests.now c.loop-at.at c.loop-at.first c.loop-at.tests c.loop-at.invariant c.loop-at.auto.at-end c.loop-at-test.false;
    }

pub returns-in_err-candidates-clause-few : goal.returns-in_err-candidates-clause-few
returns-in_err-candidates-clause-few g c =
    searched_few (g.I.SegIndex.held c.args.index.now) (times_by (g.I.SegIndex.cells c.args.index.now)) c.args.leaving c.args.added.now c.args.tests.now c.loop-at.at c.loop-at.first c.loop-at.tests c.loop-at.invariant c.loop-at.auto.at-end
