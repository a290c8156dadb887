use Rattle.kit_words.proofs.Common.{◌∙◌, ◌++◌, ℕ, List, not, ap, subst, Contains, filter}
use Rattle.std.specs.Ordering.{nat_cmp}
use Rattle.layer_sides.specs.Sweep.{has_number}
use Rattle.layer_sides.specs.Under.{Ascends}
use Rattle.layer_sides.proofs.Flipping.{either_has}
use Rattle.layer_sides.proofs.flips.flipped.Goals as goal

pub returns-clause-either : goal.returns-clause-either
returns-clause-either g c =
    let ns = c.args.numbers.now in
    let ms = c.args.others.now in
    either_has ns ms c.sort_once.new.numbers.items
    (subst (λ ps. Ascends nat_cmp (Contains ps) c.sort_once.new.numbers.items)
    (◌∙◌ {A = List ℕ} c.in_ok-push_unshared-2.ensures
    (ap (λ ps. ps ++ filter (λ n. not (has_number n ns)) ms)
    (◌∙◌ {A = List ℕ} c.in_ok-push_unshared.ensures (ap (λ ps. ps ++ filter (λ n. not (has_number n ms)) ns) c.new-found.ensures.items))))
    c.sort_once.ensures)
