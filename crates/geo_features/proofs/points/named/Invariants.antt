use Rattle.kit_words.proofs.Common.{◌≡◌, find}
use Rattle.json_spans.specs.Common.{members, members_left, node}
use Rattle.decimal_texts.specs.Common.{says}
use Rattle.geo_features.proofs.points.named.Given as goal

abbrev pub invariant-loop-member : goal.invariant-loop-member
invariant-loop-member l = find (λ m. says l.fn.name m.0) (members_left l.member-iterator) ≡ find (λ m. says l.fn.name m.0) (members (node l.fn.object))
