use Rattle.kit_words.proofs.Common.{ap, sym, ◌∙◌, subst, flat_map, take_all, IsPermutation, slice_eq-Decides}
use Rattle.walk_faults.specs.Common.{walk_segments}
use Rattle.walk_mending.specs.Common.{rings_of_parts}
use Rattle.walk_mending.proofs.Parting.{segment_decides}
use Rattle.ring_parts.specs.Common.{polygons_seen}
use Rattle.walk_mending.proofs.parts.have_exactly.Goals as goal

pub returns : goal.returns
returns g c = λ e.
    let sorted = c.as_slice-2.result.now in
    let all =
    c.loop-part.invariant
    ∙ ap (λ z. flat_map walk_segments (rings_of_parts (polygons_seen z))) (take_all c.loop-part.part-index c.args.parts.now c.loop-part-test.false) in
    subst (λ ss. IsPermutation ss c.args.odd.now) all
    (subst (IsPermutation c.loop-part.segments.items)
    (sym c.as_slice-2.ensures.value ∙ (slice_eq-Decides segment_decides sorted c.args.odd.now c.eq.result c.eq.ensures).0 e)
    c.sort_unstable.ensures.permutation)
