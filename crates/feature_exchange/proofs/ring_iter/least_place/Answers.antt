use Rattle.kit_words.proofs.Common.{arith, refl, sym, ap, [], ◌∷◌, cond, length, true, false, length-append}
use Rattle.ring_machine.proofs.Common.{position_eq-refl}
use Rattle.feature_exchange.proofs.RingAround.{tested_lt, lower_key, no_lower_key}
use Rattle.feature_exchange.proofs.ring_iter.least_place.Goals as goal
use Rattle.feature_exchange.proofs.ring_iter.least_place.Goals.{then-lt, else-lt}

pub loop-k-init : goal.loop-k-init
loop-k-init g c = record { lowest = record { least_is = refl; place_is = sym (ap (λ b. length (cond b [] (c.args.first ∷ []))) (position_eq-refl c.args.first)) }; within = omega arith; counted = omega arith }

pub loop-k-preserved : goal.loop-k-preserved
loop-k-preserved g c =
    let s = c.loop-k in
    let k = c.in-Some.k in
    let longer = length-append s.yielded (k ∷ []) in
    let there = c.pos-p.ensures.value in
    elim c.if-lt.branch [
      | then-lt w ↦ record {
        lowest = lower_key c.args.vertices.now c.args.first s.yielded k c.pos-p.result s.lowest s.place s.count there s.invariant.lowest s.invariant.counted (tested_lt c.pos-p.result s.lowest c.lt.result true c.lt.ensures w.if-lt.true) c.if-lt.lowest w.lowest-is c.if-lt.place w.place-is;
        within = omega arith;
        counted = omega (arith, longer);
      }
      | else-lt w ↦ record {
        lowest = no_lower_key c.args.vertices.now c.args.first s.yielded k c.pos-p.result s.lowest s.place s.count there s.invariant.lowest s.invariant.counted s.invariant.within (tested_lt c.pos-p.result s.lowest c.lt.result false c.lt.ensures w.if-lt.false) c.if-lt.lowest w.lowest-is c.if-lt.place w.place-is;
        within = omega arith;
        counted = omega (arith, longer);
      }
    ]
