use Rattle.kit_words.proofs.Common.{◌∙◌, ap, subst, Contains, IsPermutation}
use Rattle.grid_geometry.specs.Common.{position_cmp}
use Rattle.walk_faults.specs.Common.{ListsAll}
use Rattle.walk_faults.proofs.Neighbours.{twice, repeated_is}
use Rattle.walk_faults.proofs.repeats.repeated.Goals as goal

pub returns : goal.returns
returns g c =
    let sorted = c.sort_unstable.new.self.items in
    repeated_is c.args.walk.now sorted c.sort_positions.new.positions.items
    (subst (λ z. IsPermutation z sorted) c.in_ok-sorted.ensures.items c.sort_unstable.ensures.permutation) c.sort_unstable.ensures.sorted
    (subst (λ z. ListsAll position_cmp (Contains z) c.sort_positions.new.positions.items) (c.in_ok-found.ensures ∙ ap twice c.as_slice.ensures.value) c.sort_positions.ensures)
