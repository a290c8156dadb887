use Rattle.kit_words.proofs.Common.{◌≡◌}
use Rattle.json_spans.specs.Common.{members_left}
use Rattle.map_features.specs.Names.{name_in, named_by}
use Rattle.map_features.proofs.names.name_of.Given as goal

-- the members that are left name the feature as all do
abbrev pub invariant-loop-member : goal.invariant-loop-member
invariant-loop-member l = named_by (members_left l.member-iterator) ≡ name_in l.properties
