use Rattle.kit_words.proofs.Common.{◌≡◌, ◌+◌, ◌++◌, take, drop}
use Rattle.layer_sides.proofs.under.put_over.Given as goal

-- those that are written, between what stands before them and behind
abbrev pub invariant-loop-i : goal.invariant-loop-i
invariant-loop-i g l =
    l.list.items ≡ take l.at l.fn.list.items ++ take l.i l.begun ++ drop (l.at + l.i) l.fn.list.items
