use Rattle.kit_words.proofs.Common.{◌∙◌, ap, get_or, get_or_default, map, take_all}
use Rattle.layer_faces.specs.Common.{segments_seen, side_at, side_ends}
use Rattle.cover_report.proofs.ToldLemmas.{told_pushed}
use Rattle.cover_report.proofs.faces.ends_of.Goals as goal

pub loop-side-init : goal.loop-side-init
loop-side-init g c = c.new-ends.ensures.items

pub loop-side-preserved : goal.loop-side-preserved
loop-side-preserved g c =
    let ss = segments_seen c.args.borders.now in
    let i = c.loop-side.side-index in
    let sides = c.args.sides.now in
    let side = get_or sides i 0 in
    told_pushed side_ends (side_at ss) sides i side c.loop-side-test.true (get_or_default sides i 0 side c.loop-side-test.true)
    c.loop-side.ends.items c.push.new.self.items c.ends_at.result c.loop-side.invariant c.in_ok-push.ensures.items c.ends_at.ensures

pub returns : goal.returns
returns g c =
    c.loop-side.invariant
    ∙ ap (λ z. map side_ends (map (side_at (segments_seen c.args.borders.now)) z)) (take_all c.loop-side.side-index c.args.sides.now c.loop-side-test.false)
