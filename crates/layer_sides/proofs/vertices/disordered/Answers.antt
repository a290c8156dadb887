use Rattle.kit_words.proofs.Common.{◌≡◌, ◌<◌, ◌≤◌, sym, subst, arith, true, length, take_all, All, All-more}
use Rattle.grid_geometry.specs.Common.{IsSegment}
use Rattle.layer_sides.specs.Seen.{segments_seen}
use Rattle.layer_sides.proofs.Noting.{all_segments}
use Rattle.layer_sides.proofs.Seeing.{length_seen, segment_item}
use Rattle.layer_sides.proofs.vertices.disordered.Goals as goal

pub loop-border-preserved : goal.loop-border-preserved
loop-border-preserved g c =
    let borders = c.args.borders.now in
    let k = c.loop-border.border-index in
    let l : k < length borders = omega (arith, c.loop-border-test.true) in
    let passed : c.is_ordered.result ≡ true = grind (arith, c.if-not-is_ordered.false) in
    All-more IsSegment (segments_seen borders) k _ (subst (λ n. k < n) (sym (length_seen borders)) l) c.loop-border.invariant
    (subst IsSegment (segment_item borders k c.border-item.result l c.border-item.is) (c.is_ordered.ensures passed))

pub returns : goal.returns
returns g c = λ e.
    let borders = c.args.borders.now in
    let l : length borders ≤ c.loop-border.border-index = omega (arith, c.loop-border-test.false) in
    all_segments (segments_seen borders)
    (subst (All IsSegment) (take_all c.loop-border.border-index (segments_seen borders) (subst (λ n. n ≤ c.loop-border.border-index) (sym (length_seen borders)) l))
    c.loop-border.invariant)
