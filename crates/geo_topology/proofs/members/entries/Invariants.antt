use Rattle.kit_words.proofs.Common.{◌≡◌, ℕ, List, map, contains_text, list_any, bytes_eq}
use Rattle.json_spans.specs.Common.{node, members_left}
use Rattle.geo_topology.specs.Members.{distinct_members, members_once}
use Rattle.geo_topology.specs.Views.{view_named}
use Rattle.topo_outline.proofs.Walking.{with_front}
use Rattle.geo_topology.proofs.members.entries.Given as goal

-- the texts of the names so far, which are those that the set has
abbrev pub invariant-loop-member : goal.invariant-loop-member
invariant-loop-member g l = (texts : List (List ℕ)) × ((t : List ℕ) → list_any (bytes_eq t) texts ≡ contains_text l.seen t) × (with_front (map view_named l.found.items) (distinct_members texts (members_left l.member-iterator)) ≡ members_once (node l.fn.span))
