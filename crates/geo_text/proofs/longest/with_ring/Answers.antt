use Rattle.kit_words.proofs.Common.{◌∙◌, ◌+◌, ◌-◌, ◌++◌, ◌∷◌, [], ap, arith, drop, length, max, sym, take}
use Rattle.grid_geometry.specs.Common.{edges, links}
use Rattle.grid_geometry.proofs.RingLemmas.{ring_is}
use Rattle.geo_text.proofs.Sides.{longest_of, ring_last, ring_turn}
use Rattle.geo_text.proofs.longest.with_ring.Goals as goal

pub loop-to-preserved : goal.loop-to-preserved
loop-to-preserved c =
    let ring = c.args.ring.now in
    let others = take (length ring - 1) (drop 1 ring) in
    let i = c.loop-to.to-index in
    let to = c.to-item.result in
    record {
      value =
          ap (λ n. longest_of n (links (to ∷ drop (i + 1) others ++ c.first-item.result ∷ []))) (c.max-longest.ensures ∙ ap (λ m. max c.loop-to.longest m) c.side.ensures.value)
          ∙ sym (ring_turn c.loop-to.longest c.loop-to.from to c.first-item.result others i c.loop-to-test.true c.to-item.is) ∙ c.loop-to.invariant.value;
      bound = omega (arith, c.max-longest.ensures, c.side.ensures.bound);
    }

pub returns-clause-value : goal.returns-clause-value
returns-clause-value c =
    let ring = c.args.ring.now in
    let others = take (length ring - 1) (drop 1 ring) in
    let is = ring_is ring c.first-item.result c.in-len1-up.len_at_least c.first-item.is in
    c.max.ensures ∙ ap (λ m. max c.loop-to.longest m) c.side-2.ensures.value
    ∙ sym (ring_last c.loop-to.longest c.loop-to.from c.first-item.result others c.loop-to.to-index c.loop-to-test.false) ∙ c.loop-to.invariant.value
    ∙ ap (λ z. longest_of c.args.before (edges z)) is
