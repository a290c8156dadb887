use Rattle.kit_words.proofs.Common.{◌≡◌, ◌++◌, drop}
use Rattle.layer_faces.specs.Kept.{apart}
use Rattle.layer_faces.proofs.holders.push_apart.Given as goal

-- what is found, and what is found in the rest of both lists, is all
abbrev pub invariant-loop-n : goal.invariant-loop-n
invariant-loop-n g l =
    l.found.items ++ apart (drop l.n-index l.some) l.rest ≡ l.fn.found.items ++ apart l.some l.others
