use Rattle.kit_words.proofs.Common.{◌≡◌, ◌-ℤ◌, sym, ap₂, ◌∙◌, arith, ints, to_z, of_z, w64}
use Rattle.grid_geometry.specs.Common.{Segment}
use Rattle.layer_faces.specs.Lengths.{square}
use Rattle.layer_faces.proofs.Roots.{length_is}
use Rattle.layer_faces.proofs.measures.length_of.Goals as goal

pub returns-clause-value : goal.returns-clause-value
returns-clause-value c =
    let t : Segment = record { lo = c.segment.inside.lo; hi = c.segment.inside.hi } in
    let hx : to_z w64 (of_z w64 c.x-2.result) ≡ t.hi.x = omega (arith, ints, c.x-2.ensures.value) in
    let lx : to_z w64 (of_z w64 c.x.result) ≡ t.lo.x = omega (arith, ints, c.x.ensures.value) in
    let hy : to_z w64 (of_z w64 c.y-2.result) ≡ t.hi.y = omega (arith, ints, c.y-2.ensures.value) in
    let ly : to_z w64 (of_z w64 c.y.result) ≡ t.lo.y = omega (arith, ints, c.y.ensures.value) in
    length_is c.args.segment t c.root_of.result c.square-across.result c.square-upward.result (sym c.segment.view_is)
    (c.square-across.ensures.value ∙ ap₂ (λ a b. square (a -ℤ b)) hx lx)
    (c.square-upward.ensures.value ∙ ap₂ (λ a b. square (a -ℤ b)) hy ly)
    c.square-across.ensures.bound c.square-upward.ensures.bound c.root_of.ensures.square_le c.root_of.ensures.next_square_gt
