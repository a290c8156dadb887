use Rattle.kit_words.proofs.Common.{◌≡◌, ◌∙◌, ◌&&◌, ap, cond, not, filter, reduce, rules}
use Rattle.std.proofs.iter.runs.Made.{chains}
use Rattle.grid_geometry.specs.Common.{edges, position_lt}
use Rattle.ring_machine.specs.Common.{has, is_common}
use Rattle.ring_parts.specs.Common.{run_ends, is_shared}
use Rattle.ring_parts.proofs.RunEnds.{least_that, common_else_is}
use Rattle.ring_parts.proofs.KeptSides.{first_ends}
use Rattle.ring_parts.proofs.shared_sides.common_else.Goals as goal

pub returns : goal.returns
returns g c =
    let r = c.args.shared.now.first.now in
    let s = c.args.shared.now.second.now in
    let others = c.in_ok-other.other.ring.now in
    let ends = c.in_ok-run.run'.ring.now in
    let run : ends ≡ run_ends (is_common s) (edges r) =
    c.in_ok-run.ensures ∙ c.as_slice-2.ensures.value ∙ c.in_ok-ends.ensures
    ∙ ap (run_ends (is_shared r s)) (c.as_slice.ensures.value ∙ c.in_ok-edges.ensures)
    ∙ first_ends r s in
    let least : c.reduce.result ≡ reduce (λ q p. cond (position_lt p q) p q) (filter (λ p. has others p && not (has ends p)) r) = search (rules, chains) in
    least
    ∙ (λ i. least_that (λ p. has (c.in_ok-other.ensures i) p && not (has (run i) p)) r)
    ∙ common_else_is r s
