use Rattle.kit_words.proofs.Common.{◌≡◌}
use Rattle.json_spans.specs.Common.{node, members, members_left}
use Rattle.decimal_texts.specs.Common.{value_named}
use Rattle.decimal_texts.proofs.geometries.value_in.Given as goal

abbrev pub invariant-loop-member : goal.invariant-loop-member
invariant-loop-member l = value_named l.fn.name (members_left l.member-iterator) ≡ value_named l.fn.name (members (node l.fn.span))
