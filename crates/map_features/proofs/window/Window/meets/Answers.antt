use Rattle.kit_words.proofs.Common.{refl, arith, ints}
use Rattle.map_features.proofs.window.Window.meets.Goals as goal

pub returns-then-is_met : goal.returns-then-is_met
returns-then-is_met c =
    let w = c.args.self.now in
    let b = c.args.bounds.now in
    let x = c.if-is_met.ensures.0 refl in
    let y = c.is_met-then-is_met.ensures in (
      λ t. (
        (omega (arith, ints, x.0, w.left, b.right), omega (arith, ints, x.1, w.left, w.across.0, w.across.1, b.left)),
        (omega (arith, ints, (y.0 t).0, w.lower, b.upper), omega (arith, ints, (y.0 t).1, w.lower, w.upward.0, w.upward.1, b.lower)),
      ),
      λ h. y.1 (omega (arith, ints, h.1.0, w.lower, b.upper), omega (arith, ints, h.1.1, w.lower, w.upward.0, w.upward.1, b.lower)),
    )
