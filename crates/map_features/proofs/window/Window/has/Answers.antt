use Rattle.kit_words.proofs.Common.{refl, arith, ints}
use Rattle.map_features.proofs.window.Window.has.Goals as goal

pub returns-then-is_met : goal.returns-then-is_met
returns-then-is_met c =
    let w = c.args.self.now in
    let x = c.if-is_met.ensures.0 refl in
    let y = c.is_met-then-is_met.ensures in (
      λ t. record {
        left = omega (arith, ints, x.0, w.left, c.x-2.ensures.value, c.x-2.ensures.range.across);
        right = omega (arith, ints, x.1, w.left, w.across.0, w.across.1, c.x.ensures.value, c.x.ensures.range.across);
        lower = omega (arith, ints, (y.0 t).0, w.lower, c.y-then-is_met.ensures.value, c.y-then-is_met.ensures.range.upward);
        upper = omega (arith, ints, (y.0 t).1, w.lower, w.upward.0, w.upward.1, c.y.ensures.value, c.y.ensures.range.upward);
      },
      λ h. y.1 (
        omega (arith, ints, h.lower, w.lower, c.y-then-is_met.ensures.value, c.y-then-is_met.ensures.range.upward),
        omega (arith, ints, h.upper, w.lower, w.upward.0, w.upward.1, c.y.ensures.value, c.y.ensures.range.upward),
      ),
    )
