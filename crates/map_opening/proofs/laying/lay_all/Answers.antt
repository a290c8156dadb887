use Rattle.kit_words.proofs.Common.{◌∙◌, ◌++◌, ◌∷◌, [], refl, sym, ap, subst, length, take, arith, take_all}
use Rattle.kit_words.proofs.Common.{sum_by_more_le, mapped_more}
use Rattle.ring_store.specs.Common.{IsRound}
use Rattle.ring_store.proofs.Common.{at_contains, sum_by-map}
use Rattle.map_opening.specs.Common.{lists_seen, AreLaid}
use Rattle.map_opening.proofs.laying.lay_all.Goals as goal

pub loop-keys-init : goal.loop-keys-init
loop-keys-init g c = record { laid = c.requires.none; vertices = refl; cells = refl }

pub lay_ring-requires-clause-round : goal.lay_ring-requires-clause-round
lay_ring-requires-clause-round g c =
    subst (λ places. IsRound places c.as_slice.result.now) (sym c.loop-keys.invariant.vertices)
    (c.requires.round c.as_slice.result.now
    (at_contains (λ keys. keys.items) c.args.keyed.now c.loop-keys.keys-index c.keys-item.result c.as_slice.result.now c.loop-keys-test.true c.keys-item.is c.as_slice.ensures.value))

pub lay_ring-requires-clause-small : goal.lay_ring-requires-clause-small
lay_ring-requires-clause-small g c =
    omega (
      arith,
      c.requires.small,
      c.loop-keys.invariant.laid.size,
      ap length c.as_slice.ensures.value,
      ap (λ z. length z.items) c.keys-item.is,
      sum_by-map length (λ keys. keys.items) c.args.keyed.now,
      sum_by-map length (λ keys. keys.items) (take c.loop-keys.keys-index c.args.keyed.now),
      sum_by_more_le (λ keys. length keys.items) c.args.keyed.now c.loop-keys.keys-index c.keys-item.result c.loop-keys-test.true,
    )

pub loop-keys-preserved : goal.loop-keys-preserved
loop-keys-preserved g c = record {
  laid = subst (λ z. AreLaid z c.lay_ring.new.opened)
      (ap (λ z. lists_seen (take c.loop-keys.keys-index c.args.keyed.now) ++ z ∷ []) c.as_slice.ensures.value
      ∙ sym (mapped_more (λ keys. keys.items) c.args.keyed.now c.loop-keys.keys-index c.keys-item.result c.loop-keys-test.true c.keys-item.is))
      (c.in_ok-lay_ring.ensures.laid (lists_seen (take c.loop-keys.keys-index c.args.keyed.now)) c.loop-keys.invariant.laid);
  vertices = c.lay_ring.ensures.vertices ∙ c.loop-keys.invariant.vertices;
  cells = c.lay_ring.ensures.cells ∙ c.loop-keys.invariant.cells;
}

pub returns-clause-laid : goal.returns-clause-laid
returns-clause-laid g c =
    subst (λ z. AreLaid (lists_seen z) c.loop-keys.opened) (take_all c.loop-keys.keys-index c.args.keyed.now c.loop-keys-test.false) c.loop-keys.invariant.laid
