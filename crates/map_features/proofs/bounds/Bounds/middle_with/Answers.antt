use Rattle.kit_words.proofs.Common.{arith, ints}
use Rattle.map_features.proofs.LeastLemmas.{lesser, greater}
use Rattle.map_features.proofs.bounds.Bounds.middle_with.Goals as goal

pub overflow_add-x : goal.overflow_add-x
overflow_add-x c =
    let s = c.args.self.now in
    let o = c.args.others.now in
    let x0 = greater c.max.result s.x0 o.x0 c.max.ensures.value s.left o.left in
    let x1 = lesser c.min.result s.x1 o.x1 c.min.ensures.value s.right o.right in
    omega (arith, ints, x0.range, x1.range)

pub overflow_add-y : goal.overflow_add-y
overflow_add-y c =
    let s = c.args.self.now in
    let o = c.args.others.now in
    let y0 = greater c.max-2.result s.y0 o.y0 c.max-2.ensures.value s.lower o.lower in
    let y1 = lesser c.min-2.result s.y1 o.y1 c.min-2.ensures.value s.upper o.upper in
    omega (arith, ints, y0.range, y1.range)
