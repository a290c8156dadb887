use Rattle.kit_words.proofs.Common.{◌≡◌, ◌∙◌, ap, map, filter, list_any}
use Rattle.grid_geometry.specs.Common.{edges}
use Rattle.ring_machine.specs.Common.{is_common}
use Rattle.ring_parts.specs.Common.{ends_of}
use Rattle.ring_parts.proofs.Searching.{any_permuted}
use Rattle.ring_parts.proofs.shared_sides.SharedSides.new.Goals as goal

pub invariant_of-result : goal.invariant_of-result
invariant_of-result g c =
    let r = c.args.first.now in
    let s = c.args.second.now in
    let gathered : c.in_ok-sides.sides.items ≡ map ends_of (filter (is_common s) (edges r)) =
    c.in_ok-sides.ensures
    ∙ ap (λ ring. map ends_of (filter (is_common ring) c.as_slice.result.now)) c.in_ok-other.ensures
    ∙ ap (λ es. map ends_of (filter (is_common s) es)) (c.as_slice.ensures.value ∙ c.in_ok-edges.ensures) in
    record {
      ascending = c.sort_unstable.ensures.sorted;
      same = λ test. any_permuted test c.in_ok-sides.sides.items c.sort_unstable.new.self.items c.sort_unstable.ensures.permutation ∙ ap (list_any test) gathered;
    }
