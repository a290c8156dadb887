use Rattle.kit_words.proofs.Common.{◌++◌, sym, ap, ◌∙◌, subst, Contains, unsigned_tied, nat_cmp, nat_cmp_total}
use Rattle.std.proofs.lemmas.Bool.{eqb-true}
use Rattle.walk_faults.specs.Common.{ListsAll}
use Rattle.walk_faults.proofs.Common.{sorted_once}
use Rattle.place_text.proofs.owners.union.Goals as goal

pub returns : goal.returns
returns g c =
    subst (λ ns. ListsAll nat_cmp (Contains ns) c.dedup.new.self.items)
    (c.in_ok-extend_from_slice.ensures.items ∙ ap (λ ns. ns ++ c.args.others.now) c.in_ok-all.ensures.items)
    (sorted_once nat_cmp nat_cmp_total _ eqb-true (λ a b. sym (unsigned_tied a b)) _ _ _
    c.sort_unstable.ensures.permutation c.sort_unstable.ensures.sorted c.dedup.ensures.filtered)
