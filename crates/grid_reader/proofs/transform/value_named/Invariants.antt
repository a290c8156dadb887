use Rattle.kit_words.proofs.Common.{◌≡◌}
use Rattle.json_spans.specs.Common.{node, members, members_left}
use Rattle.grid_reader.specs.Common.{member_value}
use Rattle.grid_reader.proofs.transform.value_named.Given as goal

abbrev pub invariant-loop-member : goal.invariant-loop-member
invariant-loop-member l = member_value l.name (members_left l.member-iterator) ≡ member_value l.name (members (node l.fn.object))
