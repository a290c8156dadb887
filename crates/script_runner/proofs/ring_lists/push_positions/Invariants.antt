use Rattle.kit_words.proofs.Common.{◌≡◌, ◌++◌, map}
use Rattle.map_text.specs.Common.{commas, pair_text}
use Rattle.script_runner.proofs.ListLemmas.{left_text}
use Rattle.script_runner.proofs.ring_lists.push_positions.Given as goal

-- with the positions that are left it is the whole list
abbrev pub invariant-loop-position : goal.invariant-loop-position
invariant-loop-position g l =
    l.text.items ++ left_text l.more (map pair_text l.position-iterator) ≡ l.fn.text.items ++ commas (map pair_text l.initial.position-iterator)
