use Rattle.kit_words.proofs.Common.{◌≡◌, ◌++◌, not, take, filter}
use Rattle.layer_sides.specs.Common.{has_number}
use Rattle.layer_sides.proofs.flips.push_unshared.Given as goal

-- those so far
abbrev pub invariant-loop-n : goal.invariant-loop-n
invariant-loop-n g l =
    l.found.items ≡ l.fn.found.items ++ filter (λ n. not (has_number n l.others)) (take l.n-index l.numbers)
