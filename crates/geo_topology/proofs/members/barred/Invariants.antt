use Rattle.kit_words.proofs.Common.{◌≡◌, map, drop}
use Rattle.geo_topology.specs.Members.{barred}
use Rattle.geo_topology.specs.Views.{view_named}
use Rattle.geo_topology.proofs.members.barred.Given as goal

abbrev pub invariant-loop-entry : goal.invariant-loop-entry
invariant-loop-entry l = barred l.owner (map view_named (drop l.entry-index l.entries)) ≡ barred l.fn.owner (map view_named l.fn.entries)
