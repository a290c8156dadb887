use Rattle.kit_words.proofs.Common.{◌≡◌, ◌+◌, ◌<◌, true, arith, length, get_or, take, drop, ◌-◌}
use Rattle.layer_sides.specs.Seen.{segments_seen}
use Rattle.layer_sides.proofs.Cutting.{rest_at, rest_length, right_at, turned_more}
use Rattle.layer_sides.proofs.begun.are_in_order.Goals as goal

pub loop-place-preserved : goal.loop-place-preserved
loop-place-preserved g c =
    let places = c.args.begun.now in
    let k = c.loop-place.place-index in
    let l : k + 1 < length places = omega (arith, c.loop-place-test.true, rest_length places, c.in-len1-up.len_at_least) in
    let passed : c.is_right.result ≡ true = grind (arith, c.if-not-is_right.false) in (
      rest_at places k l,
      turned_more (segments_seen c.args.borders.now) places k c.loop-place.last (get_or (take (length places - 1) (drop 1 places)) k 0) l
          c.loop-place.invariant.0 (rest_at places k l)
          (right_at (segments_seen c.args.borders.now) c.loop-place.last (get_or (take (length places - 1) (drop 1 places)) k 0)
          c.segment_at.result c.segment_at-in-loop-place.result c.top_of.result c.is_right.result
          c.segment_at.ensures c.segment_at-in-loop-place.ensures c.top_of.ensures c.is_right.ensures passed)
          c.loop-place.invariant.1,
    )
