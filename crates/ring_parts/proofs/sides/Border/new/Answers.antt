use Rattle.kit_words.proofs.Common.{◌∙◌, ap, map, list_any}
use Rattle.ring_machine.specs.Common.{edge_eq}
use Rattle.ring_parts.specs.Common.{ends_of}
use Rattle.ring_parts.proofs.Searching.{any_permuted}
use Rattle.ring_parts.proofs.sides.Border.new.Goals as goal

pub invariant_of-result : goal.invariant_of-result
invariant_of-result g c = record {
  ascending = c.sort_unstable.ensures.sorted;
  same = λ e. any_permuted (edge_eq e) c.in_ok-sides.sides.items c.sort_unstable.new.self.items c.sort_unstable.ensures.permutation ∙ ap (list_any (edge_eq e)) (c.in_ok-sides.ensures ∙ ap (map ends_of) (c.as_slice.ensures.value ∙ c.in_ok-edges.ensures));
}
