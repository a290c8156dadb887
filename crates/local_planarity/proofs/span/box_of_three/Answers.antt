use Rattle.kit_words.proofs.Common.{◌≡◌, ap, ◌∙◌, w64, to_z, of_z, rules, int_min, int_max, to_z-of_z}
use Rattle.local_planarity.proofs.Spans.{box_in_place}
use Rattle.local_planarity.proofs.span.box_of_three.Goals as goal

pub invariant_of-result : goal.invariant_of-result
invariant_of-result c =
    let x0 : to_z w64 (of_z w64 c.x.result) ≡ c.x.result = search (rules, to_z-of_z) in
    let y0 : to_z w64 (of_z w64 c.y.result) ≡ c.y.result = search (rules, to_z-of_z) in
    let x1 : to_z w64 (of_z w64 c.x-2.result) ≡ c.x-2.result = search (rules, to_z-of_z) in
    let y1 : to_z w64 (of_z w64 c.y-2.result) ≡ c.y-2.result = search (rules, to_z-of_z) in
    box_in_place c.args.a c.args.b c.args.c c.leftmost-2.result c.lowest-2.result c.rightmost-2.result c.highest-2.result _ _ _ _
    c.x.ensures.range c.y.ensures.range c.x-2.ensures.range c.y-2.ensures.range
    (x0 ∙ c.x.ensures.value) (y0 ∙ c.y.ensures.value) (x1 ∙ c.x-2.ensures.value) (y1 ∙ c.y-2.ensures.value)
    (c.leftmost-2.ensures ∙ ap (λ z. int_min z c.args.c.x) c.leftmost.ensures)
    (c.lowest-2.ensures ∙ ap (λ z. int_min z c.args.c.y) c.lowest.ensures)
    (c.rightmost-2.ensures ∙ ap (λ z. int_max z c.args.c.x) c.rightmost.ensures)
    (c.highest-2.ensures ∙ ap (λ z. int_max z c.args.c.y) c.highest.ensures)
