use Rattle.kit_words.proofs.Common.{◌≤◌, ◌*ℤ◌, w64, to_z, of_z, unsigned_abs, arith, ints}
use Rattle.map_drawing.proofs.ProductLemmas.{product_is, product_small}
use Rattle.map_drawing.proofs.layout.share.Goals as goal

pub returns : goal.returns
returns c =
    let small : unsigned_abs (to_z w64 (of_z w64 (to_z w64 (of_z w64 c.args.part) *ℤ to_z w64 (of_z w64 c.args.room)))) ≤ 900000000000000000 =
    rw (product_is c.args.part c.args.room c.ranges.part c.ranges.room c.requires.part c.requires.room)
    (product_small c.args.part c.args.room c.requires.part c.requires.room) in
    let size : unsigned_abs c.quotient.result ≤ 900000000000000000 = omega (arith, c.quotient.ensures.small, small) in
    omega (arith, ints, size)
