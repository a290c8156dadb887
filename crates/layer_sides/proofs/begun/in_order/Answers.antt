use Rattle.kit_words.proofs.Common.{◌<◌, sym, subst, length, All-permutation}
use Rattle.layer_sides.specs.Under.{AreBelow}
use Rattle.layer_sides.proofs.begun.in_order.Goals as goal

pub are_in_order-requires : goal.are_in_order-requires
are_in_order-requires g c =
    let n = length c.args.borders.now in
    subst (AreBelow n) (sym c.as_slice.ensures.value)
    (All-permutation (λ i. i < n) c.args.begun.now c.in_ok-found.found.items c.in_ok-found.ensures c.requires)
