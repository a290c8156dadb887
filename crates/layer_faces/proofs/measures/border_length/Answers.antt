use Rattle.kit_words.proofs.Common.{◌/◌, ◌<◌, ap, ◌∙◌, arith, length, get_or, take_all, map}
use Rattle.std.proofs.lemmas.List.{get_or_default}
use Rattle.layer_faces.specs.Common.{border_length, segments_seen, side_at}
use Rattle.layer_faces.proofs.Reading.{length_more, segment_at}
use Rattle.layer_faces.proofs.measures.border_length.Goals as goal

pub overflow_add-sum : goal.overflow_add-sum
overflow_add-sum g c = omega (arith, c.requires.few, c.loop-side.invariant.bound, c.length_of-sum.ensures.bound, c.loop-side-test.true)

pub loop-side-preserved : goal.loop-side-preserved
loop-side-preserved g c =
    let i = c.loop-side.side-index in
    let n = get_or c.args.sides.now i 0 in
    let h = c.requires.within i 0 c.loop-side-test.true in
    let within : n / 2 < length c.args.borders.now = omega (arith, h) in
    record {
      whole = length_more (segments_seen c.args.borders.now) c.args.sides.now i n _ c.length_of-sum.result _
          c.loop-side-test.true (get_or_default c.args.sides.now i 0 n c.loop-side-test.true)
          (segment_at c.args.borders.now (n / 2) c.index-borders-side.result within) c.length_of-sum.ensures.value c.loop-side.invariant.whole;
      bound = omega (arith, c.loop-side.invariant.bound, c.length_of-sum.ensures.bound);
    }

pub returns : goal.returns
returns g c =
    let all = take_all c.loop-side.side-index c.args.sides.now c.loop-side-test.false in
    record {
      value = c.loop-side.invariant.whole ∙ ap (λ ns. border_length (map (side_at (segments_seen c.args.borders.now)) ns)) all;
      bound = omega (arith, c.loop-side.invariant.bound, c.loop-side.auto.side-index-end);
    }
