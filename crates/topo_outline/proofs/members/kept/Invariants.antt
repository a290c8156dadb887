use Rattle.kit_words.proofs.Common.{◌≡◌, map, drop, ◌++◌}
use Rattle.topo_outline.specs.Common.{kept, view_entry, view_kept}
use Rattle.topo_outline.proofs.members.kept.Given as goal

abbrev pub invariant-loop-entry : goal.invariant-loop-entry
invariant-loop-entry g l = map view_kept l.found.items ++ kept l.owner (map view_entry (drop l.entry-index l.entries)) ≡ kept l.fn.owner (map view_entry l.fn.entries)
