use Rattle.kit_words.proofs.Common.{◌≡◌, map, drop}
use Rattle.topo_outline.specs.Common.{member, view_entry}
use Rattle.topo_outline.proofs.members.find.Given as goal

abbrev pub invariant-loop-entry : goal.invariant-loop-entry
invariant-loop-entry l = member l.word (map view_entry (drop l.entry-index l.entries)) ≡ member l.fn.word (map view_entry l.fn.entries)
