use Rattle.kit_words.proofs.Common.{arith, ints}
use Rattle.map_features.proofs.WindowLemmas.{further_out, extent_about, starts_before, ends_behind}
use Rattle.map_features.proofs.window.Window.with_margin.Goals as goal

pub invariant_of-result : goal.invariant_of-result
invariant_of-result c =
    let b = c.args.bounds in
    let m = c.requires in
    record {
      left = omega (arith, ints, b.left, m.0, m.1);
      lower = omega (arith, ints, b.lower, m.0, m.1);
      across = (omega (arith, ints, b.left, b.right, b.across, m.0, m.1), omega (arith, ints, b.left, b.right, b.across, m.0, m.1));
      upward = (omega (arith, ints, b.lower, b.upper, b.upward, m.0, m.1), omega (arith, ints, b.lower, b.upper, b.upward, m.0, m.1));
    }

pub returns : goal.returns
returns c =
    let b = c.args.bounds in
    let m = c.args.margin in
    let h = c.requires in
    record {
      left = rw (further_out b.x0 m b.left h.0 h.1) (starts_before b.x0 m h.0);
      right = rw (further_out b.x0 m b.left h.0 h.1, extent_about b.x0 b.x1 m b.left b.right h.0 h.1) (ends_behind b.x0 b.x1 m h.0);
      lower = rw (further_out b.y0 m b.lower h.0 h.1) (starts_before b.y0 m h.0);
      upper = rw (further_out b.y0 m b.lower h.0 h.1, extent_about b.y0 b.y1 m b.lower b.upper h.0 h.1) (ends_behind b.y0 b.y1 m h.0);
    }
