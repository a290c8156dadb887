use Rattle.kit_words.proofs.Common.{ap, ◌∙◌, arith, ints, get_or, take_all, map}
use Rattle.std.proofs.lemmas.List.{get_or_default}
use Rattle.layer_faces.specs.Common.{segments_seen, side_at, side_term, total}
use Rattle.layer_faces.proofs.Reading.{area_more}
use Rattle.layer_faces.proofs.measures.area_of.Goals as goal

pub ends_at-from-requires : goal.ends_at-from-requires
ends_at-from-requires g c = c.requires.within c.loop-side.side-index 0 c.loop-side-test.true

pub overflow_add-area : goal.overflow_add-area
overflow_add-area g c = omega (arith, ints, c.requires.few, c.loop-side.invariant.bound, c.term-area.ensures.bound, c.loop-side-test.true)

pub loop-side-preserved : goal.loop-side-preserved
loop-side-preserved g c =
    let i = c.loop-side.side-index in
    let n = get_or c.args.sides.now i 0 in
    let step = area_more (segments_seen c.args.borders.now) c.args.sides.now i n _ c.term-area.result c.ends_at-from.result.0 c.ends_at-from.result.1
    c.loop-side-test.true (get_or_default c.args.sides.now i 0 n c.loop-side-test.true) c.ends_at-from.ensures c.term-area.ensures.value c.loop-side.invariant.whole in
    record {
      whole = omega (arith, ints, step, c.requires.few, c.loop-side.invariant.bound, c.term-area.ensures.bound, c.loop-side-test.true);
      bound = omega (arith, ints, c.requires.few, c.loop-side.invariant.bound, c.term-area.ensures.bound, c.loop-side-test.true);
    }

pub returns : goal.returns
returns g c =
    let all = take_all c.loop-side.side-index c.args.sides.now c.loop-side-test.false in
    record {
      value = c.loop-side.invariant.whole ∙ ap (λ ns. total side_term (map (side_at (segments_seen c.args.borders.now)) ns)) all;
      bound = omega (arith, c.loop-side.invariant.bound, c.loop-side.auto.side-index-end);
    }
