use Rattle.kit_words.proofs.Common.{◌≡◌, ◌∷◌, None}
use Rattle.json_spans.specs.Common.{node, nodes, members, members_left}
use Rattle.decimal_texts.specs.Common.{range_of}
use Rattle.decimal_texts.proofs.dropped.range_of.Given as goal

abbrev pub invariant-loop-next : goal.invariant-loop-next
invariant-loop-next l = range_of l.fn.name l.before (nodes l.member ∷ members_left l.next-iterator) ≡ range_of l.fn.name None (members (node l.fn.span))
