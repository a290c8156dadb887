use Rattle.kit_words.proofs.Common.{arith, ints}
use Rattle.map_features.proofs.LeastLemmas.{lesser, greater}
use Rattle.map_features.proofs.bounds.Bounds.with.Goals as goal

pub invariant_of-result : goal.invariant_of-result
invariant_of-result c =
    let s = c.args.self in
    let x0 = lesser c.min.result s.x0 c.x.result c.min.ensures.value s.left (omega (arith, ints, c.x.ensures.value, c.x.ensures.range.across)) in
    let y0 = lesser c.min-2.result s.y0 c.y.result c.min-2.ensures.value s.lower (omega (arith, ints, c.y.ensures.value, c.y.ensures.range.upward)) in
    let x1 = greater c.max.result s.x1 c.x-2.result c.max.ensures.value s.right (omega (arith, ints, c.x-2.ensures.value, c.x-2.ensures.range.across)) in
    let y1 = greater c.max-2.result s.y1 c.y-2.result c.max-2.ensures.value s.upper (omega (arith, ints, c.y-2.ensures.value, c.y-2.ensures.range.upward)) in
    record {
      left = omega (arith, ints, x0.range);
      lower = omega (arith, ints, y0.range);
      right = omega (arith, ints, x1.range);
      upper = omega (arith, ints, y1.range);
      across = omega (arith, ints, x0.range, x1.range, x0.first, s.across, x1.first);
      upward = omega (arith, ints, y0.range, y1.range, y0.first, s.upward, y1.first);
    }

pub returns-clause-new : goal.returns-clause-new
returns-clause-new c =
    let s = c.args.self in
    let x0 = lesser c.min.result s.x0 c.x.result c.min.ensures.value s.left (omega (arith, ints, c.x.ensures.value, c.x.ensures.range.across)) in
    let y0 = lesser c.min-2.result s.y0 c.y.result c.min-2.ensures.value s.lower (omega (arith, ints, c.y.ensures.value, c.y.ensures.range.upward)) in
    let x1 = greater c.max.result s.x1 c.x-2.result c.max.ensures.value s.right (omega (arith, ints, c.x-2.ensures.value, c.x-2.ensures.range.across)) in
    let y1 = greater c.max-2.result s.y1 c.y-2.result c.max-2.ensures.value s.upper (omega (arith, ints, c.y-2.ensures.value, c.y-2.ensures.range.upward)) in
    record {
      left = omega (arith, ints, c.x.ensures.value, x0.second, x0.range);
      right = omega (arith, ints, c.x-2.ensures.value, x1.second, x1.range);
      lower = omega (arith, ints, c.y.ensures.value, y0.second, y0.range);
      upper = omega (arith, ints, c.y-2.ensures.value, y1.second, y1.range);
    }

pub returns-clause-least : goal.returns-clause-least
returns-clause-least c =
    let s = c.args.self in
    let x0 = lesser c.min.result s.x0 c.x.result c.min.ensures.value s.left (omega (arith, ints, c.x.ensures.value, c.x.ensures.range.across)) in
    let y0 = lesser c.min-2.result s.y0 c.y.result c.min-2.ensures.value s.lower (omega (arith, ints, c.y.ensures.value, c.y.ensures.range.upward)) in
    (omega (arith, ints, x0.first, x0.range), omega (arith, ints, y0.first, y0.range))

pub returns-clause-most : goal.returns-clause-most
returns-clause-most c =
    let s = c.args.self in
    let x1 = greater c.max.result s.x1 c.x-2.result c.max.ensures.value s.right (omega (arith, ints, c.x-2.ensures.value, c.x-2.ensures.range.across)) in
    let y1 = greater c.max-2.result s.y1 c.y-2.result c.max-2.ensures.value s.upper (omega (arith, ints, c.y-2.ensures.value, c.y-2.ensures.range.upward)) in
    (omega (arith, ints, x1.first, x1.range), omega (arith, ints, y1.first, y1.range))
