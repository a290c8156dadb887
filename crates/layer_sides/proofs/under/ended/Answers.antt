use Rattle.kit_words.proofs.Common.{◌≡◌, ◌<◌, ◌≤◌, ◌∙◌, sym, ap, subst, arith, length, take_all, All, All-more}
use Rattle.layer_sides.specs.Common.{top}
use Rattle.layer_sides.specs.Seen.{segments_seen}
use Rattle.layer_sides.specs.Under.{segment_at}
use Rattle.layer_sides.proofs.Cutting.{same_at}
use Rattle.layer_sides.proofs.under.ended.Goals as goal

pub loop-count-preserved : goal.loop-count-preserved
loop-count-preserved g c =
    let l : c.loop-count.count < length c.args.list.now = omega (arith, c.loop-count-test.true) in
    All-more (λ i. top (segment_at (segments_seen c.args.borders.now) i) ≡ c.args.v) c.args.list.now c.loop-count.count 0 l c.loop-count.invariant
    (ap top (sym c.segment_at.ensures) ∙ sym c.top_of.ensures ∙ same_at c.top_of.result c.args.v (sym c.ne.ensures ∙ c.if-ne.false))

pub returns-clause-ended : goal.returns-clause-ended
returns-clause-ended g c =
    let list = c.args.list.now in
    let l : length list ≤ c.loop-count.count = omega (arith, c.loop-count-test.false) in
    let m : length list ≤ length list = omega arith in
    subst (All (λ i. top (segment_at (segments_seen c.args.borders.now) i) ≡ c.args.v))
    (take_all c.loop-count.count list l ∙ sym (take_all (length list) list m)) c.loop-count.invariant
