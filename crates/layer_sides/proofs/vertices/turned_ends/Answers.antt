use Rattle.kit_words.proofs.Common.{◌<◌, ◌∙◌, sym, ap, subst, arith, length}
use Rattle.layer_sides.specs.Seen.{segments_seen}
use Rattle.layer_sides.specs.Under.{turned}
use Rattle.layer_sides.proofs.Noting.{ends_more}
use Rattle.layer_sides.proofs.Seeing.{length_seen, segment_item}
use Rattle.layer_sides.proofs.vertices.turned_ends.Goals as goal

pub loop-border-preserved : goal.loop-border-preserved
loop-border-preserved g c =
    let borders = c.args.borders.now in
    let k = c.loop-border.border-index in
    let l : k < length borders = omega (arith, c.loop-border-test.true) in
    ends_more (segments_seen borders) k c.border-item.result.segment c.turned.result c.turned-in-loop-border.result
    c.loop-border.found.items c.push.new.self.items c.push-in-loop-border.new.self.items
    (subst (λ n. k < n) (sym (length_seen borders)) l) (segment_item borders k c.border-item.result l c.border-item.is)
    (c.turned.ensures ∙ ap turned c.bottom_of.ensures) (c.turned-in-loop-border.ensures ∙ ap turned c.top_of.ensures)
    c.in_ok-push.ensures.items c.in_ok-push-2.ensures.items c.loop-border.invariant
