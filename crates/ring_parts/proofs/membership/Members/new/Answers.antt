use Rattle.kit_words.proofs.Common.{◌∙◌, ap}
use Rattle.grid_geometry.specs.Common.{position_eq}
use Rattle.ring_machine.specs.Common.{has}
use Rattle.ring_parts.proofs.Searching.{any_permuted}
use Rattle.ring_parts.proofs.membership.Members.new.Goals as goal

pub invariant_of-result : goal.invariant_of-result
invariant_of-result g c = record {
  ascending = c.sort_unstable.ensures.sorted;
  same = λ p. any_permuted (position_eq p) c.in_ok-sorted.sorted.items c.sort_unstable.new.self.items c.sort_unstable.ensures.permutation ∙ ap (λ ps. has ps p) c.in_ok-sorted.ensures.items;
}
