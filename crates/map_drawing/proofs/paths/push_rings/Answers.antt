use Rattle.kit_words.proofs.Common.{◌++◌, ap, ap₂, ◌∙◌, sym, map, take, append_assoc, take_all, flat_mapped_more}
use Rattle.std.proofs.Common.{append-nil}
use Rattle.map_drawing.specs.Common.{points_of, ring_path, rings_path}
use Rattle.map_drawing.proofs.paths.push_rings.Goals as goal

pub loop-ring-init : goal.loop-ring-init
loop-ring-init g c = sym (append-nil c.args.text.now.items)

pub loop-ring-preserved : goal.loop-ring-preserved
loop-ring-preserved g c =
    let old = c.args.text.now.items in
    let rings = c.args.rings.now in
    let i = c.loop-ring.ring-index in
    c.in_ok-push_ring.ensures ∙ ap₂ (λ t ps. t ++ ring_path ps) c.loop-ring.invariant c.as_slice.ensures.value
    ∙ append_assoc old (rings_path (map points_of (take i rings))) (ring_path c.ring-item.result.items)
    ∙ ap (λ z. old ++ z) (sym (flat_mapped_more ring_path points_of rings i c.ring-item.result c.loop-ring-test.true c.ring-item.is))

pub returns : goal.returns
returns g c =
    c.loop-ring.invariant
    ∙ ap (λ rs. c.args.text.now.items ++ rings_path (map points_of rs)) (take_all c.loop-ring.ring-index c.args.rings.now c.loop-ring-test.false)
