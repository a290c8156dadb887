use Rattle.kit_words.proofs.Common.{◌≡◌, map, drop}
use Rattle.geo_topology.specs.Members.{member_with_word}
use Rattle.geo_topology.specs.Views.{view_named}
use Rattle.geo_topology.proofs.members.find.Given as goal

abbrev pub invariant-loop-entry : goal.invariant-loop-entry
invariant-loop-entry l = member_with_word l.word (map view_named (drop l.entry-index l.entries)) ≡ member_with_word l.fn.word (map view_named l.fn.entries)
