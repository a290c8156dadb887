use Rattle.kit_words.proofs.Common.{◌≡◌, ◌∙◌, sym, ap, [], ◌∷◌, ◌++◌, length, get_or, arith, ints}
use Rattle.grid_geometry.specs.Common.{links, total_area, signed_area}
use Rattle.ring_machine.specs.Common.{absolute_area, feature_at}
use Rattle.point_queries.proofs.Shows.{ring_read, no_ring_read}
use Rattle.point_queries.proofs.area.ring_area.Goals as goal

pub returns-in_default-clause-value : goal.returns-in_default-clause-value
returns-in_default-clause-value g c =
    ap absolute_area (no_ring_read c.args.map.now.doc c.args.f c.args.polygon c.args.ring (sym c.in_default.is ∙ c.ring.ensures))

pub returns-in_default-next-clause-value : goal.returns-in_default-next-clause-value
returns-in_default-next-clause-value g c =
    let is = ring_read c.args.map.now.doc c.args.f c.args.polygon c.args.ring c.in-Some.positions (sym c.in-Some.is ∙ c.ring.ensures) in
    ap absolute_area (sym c.in_default-next.ensures.steps.0 ∙ is)

pub loop-to-init : goal.loop-to-init
loop-to-init g c = record { whole = omega (arith, ints); bound = omega (arith, ints) }

pub overflow_add-sum : goal.overflow_add-sum
overflow_add-sum g c =
    let is = ring_read c.args.map.now.doc c.args.f c.args.polygon c.args.ring c.in-Some.positions (sym c.in-Some.is ∙ c.ring.ensures) in
    let all = ap length (sym c.in-Some-next.ensures.steps ∙ is) in
    let begun = ap length c.into_iter-to-iterator.ensures.into_iter_gives in
    let long = ap length c.in-Some-to.ensures.steps in
    omega (arith, ints, all, begun, long, c.requires.few, c.loop-to.invariant.bound, c.term-sum.ensures.bound)

pub loop-to-preserved : goal.loop-to-preserved
loop-to-preserved g c =
    let is = ring_read c.args.map.now.doc c.args.f c.args.polygon c.args.ring c.in-Some.positions (sym c.in-Some.is ∙ c.ring.ensures) in
    let all = ap length (sym c.in-Some-next.ensures.steps ∙ is) in
    let begun = ap length c.into_iter-to-iterator.ensures.into_iter_gives in
    let long = ap length c.in-Some-to.ensures.steps in
    let step = ap (λ ps. total_area (links (c.loop-to.from ∷ ps ++ c.in-Some-next.first ∷ []))) c.in-Some-to.ensures.steps in
    record {
      whole = omega (arith, ints, step, all, begun, long, c.requires.few, c.loop-to.invariant.whole, c.loop-to.invariant.bound, c.term-sum.ensures.value, c.term-sum.ensures.bound);
      bound = omega (arith, ints, all, begun, long, c.requires.few, c.loop-to.invariant.bound, c.term-sum.ensures.bound);
    }

pub overflow_add-sum-2 : goal.overflow_add-sum-2
overflow_add-sum-2 g c =
    let is = ring_read c.args.map.now.doc c.args.f c.args.polygon c.args.ring c.in-Some.positions (sym c.in-Some.is ∙ c.ring.ensures) in
    let all = ap length (sym c.in-Some-next.ensures.steps ∙ is) in
    let begun = ap length c.into_iter-to-iterator.ensures.into_iter_gives in
    omega (arith, ints, all, begun, c.requires.few, c.loop-to.invariant.bound, c.term.ensures.bound)

pub abs-requires : goal.abs-requires
abs-requires g c =
    let is = ring_read c.args.map.now.doc c.args.f c.args.polygon c.args.ring c.in-Some.positions (sym c.in-Some.is ∙ c.ring.ensures) in
    let all = ap length (sym c.in-Some-next.ensures.steps ∙ is) in
    let begun = ap length c.into_iter-to-iterator.ensures.into_iter_gives in
    omega (arith, ints, all, begun, c.requires.few, c.loop-to.invariant.bound, c.term.ensures.bound)

pub returns-clause-value : goal.returns-clause-value
returns-clause-value g c =
    let ring = get_or (get_or (feature_at c.args.map.now.doc c.args.f).polygons c.args.polygon []) c.args.ring [] in
    let is = ring_read c.args.map.now.doc c.args.f c.args.polygon c.args.ring c.in-Some.positions (sym c.in-Some.is ∙ c.ring.ensures) in
    let all = sym c.in-Some-next.ensures.steps ∙ is in
    let from_first = ap (λ ps. c.in-Some-next.first ∷ ps) c.into_iter-to-iterator.ensures.into_iter_gives ∙ all in
    let long = ap length from_first in
    let end = ap (λ ps. total_area (links (c.loop-to.from ∷ ps ++ c.in-Some-next.first ∷ []))) c.in-None.ensures.steps.0 in
    let whole : total_area (links (c.in-Some-next.first ∷ c.into_iter-to-iterator.result ++ c.in-Some-next.first ∷ [])) ≡ signed_area ring = ap signed_area from_first in
    omega (arith, ints, long, end, whole, c.requires.few, c.loop-to.invariant.whole, c.loop-to.invariant.bound, c.term.ensures.value, c.term.ensures.bound, c.abs.ensures.value)

pub returns-clause-bound : goal.returns-clause-bound
returns-clause-bound g c =
    let is = ring_read c.args.map.now.doc c.args.f c.args.polygon c.args.ring c.in-Some.positions (sym c.in-Some.is ∙ c.ring.ensures) in
    let all = sym c.in-Some-next.ensures.steps ∙ is in
    let from_first = ap (λ ps. c.in-Some-next.first ∷ ps) c.into_iter-to-iterator.ensures.into_iter_gives ∙ all in
    let long = ap length from_first in
    omega (arith, ints, long, c.requires.few, c.loop-to.invariant.bound, c.term.ensures.bound, c.abs.ensures.value)
