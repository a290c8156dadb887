use Rattle.kit_words.proofs.Common.{◌∙◌, ap, arith, subst, drop, list_any, zip, IsPermutation}
use Rattle.walk_mending.proofs.Distinct.{is_still, simple_if}
use Rattle.walk_mending.proofs.simple.is_simple.Goals as goal

pub returns : goal.returns
returns g c =
    let sorted = c.sort_unstable.new.self.items in
    simple_if c.args.walk.now sorted c.has_equal_neighbours.result (omega arith)
    (subst (λ ps. IsPermutation ps sorted) c.in_ok-sorted.ensures.items c.sort_unstable.ensures.permutation) c.sort_unstable.ensures.sorted
    (c.has_equal_neighbours.ensures ∙ ap (λ z. list_any is_still (zip z (drop 1 z))) c.as_slice.ensures.value)
