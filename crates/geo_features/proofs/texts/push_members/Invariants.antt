use Rattle.kit_words.proofs.Common.{◌≡◌, ◌++◌, map, take}
use Rattle.topo_outline.specs.Common.{view_kept}
use Rattle.map_text.specs.Common.{further, member_text}
use Rattle.geo_features.proofs.texts.push_members.Given as goal

abbrev pub invariant-loop-member : goal.invariant-loop-member
invariant-loop-member g l = l.text.items ≡ l.fn.text.items ++ further (map member_text (map view_kept (take l.member-index l.members)))
