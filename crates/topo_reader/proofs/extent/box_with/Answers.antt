use Rattle.kit_words.proofs.Common.{arith, ints, clamps}
use Rattle.topo_reader.proofs.Boxed.{is_box_with, box_with_is}
use Rattle.topo_reader.proofs.extent.box_with.Goals as goal

pub invariant_of-result : goal.invariant_of-result
invariant_of-result c = is_box_with c.rect.inside.x0 c.rect.inside.y0 c.rect.inside.x1 c.rect.inside.y1 c.args.pos _ _ _ _ c.rect.invariant c.x-x.ensures.range
    (omega (arith, ints, clamps, c.min.ensures.value, c.x-x.ensures.value)) (omega (arith, ints, clamps, c.min-in-Some.ensures.value, c.y-y.ensures.value))
    (omega (arith, ints, clamps, c.max.ensures.value, c.x-x.ensures.value)) (omega (arith, ints, clamps, c.max-in-Some.ensures.value, c.y-y.ensures.value))

pub returns-in-Some : goal.returns-in-Some
returns-in-Some c = box_with_is c.rect.inside.x0 c.rect.inside.y0 c.rect.inside.x1 c.rect.inside.y1 c.args.rect c.in-Some.rect c.args.pos _ _ _ _ c.in-Some.is c.rect.view_is
    (omega (arith, ints, clamps, c.min.ensures.value, c.x-x.ensures.value)) (omega (arith, ints, clamps, c.min-in-Some.ensures.value, c.y-y.ensures.value))
    (omega (arith, ints, clamps, c.max.ensures.value, c.x-x.ensures.value)) (omega (arith, ints, clamps, c.max-in-Some.ensures.value, c.y-y.ensures.value))
