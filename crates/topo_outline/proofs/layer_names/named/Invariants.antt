use Rattle.kit_words.proofs.Common.{◌≡◌, ℕ, List, length, map, list_any, bytes_eq, is_some}
use Rattle.indexmap.specs.IndexMap.{get_by_text, index_map_len}
use Rattle.json_spans.specs.Common.{node, members_left}
use Rattle.topo_outline.specs.Common.{named, members_of, view_entry}
use Rattle.topo_outline.proofs.Walking.{with_front}
use Rattle.topo_outline.proofs.layer_names.named.Given as goal

-- the texts of the names so far, which are those that the map has
abbrev pub invariant-loop-member : goal.invariant-loop-member
invariant-loop-member g l = (texts : List (List ℕ)) × ((t : List ℕ) → list_any (bytes_eq t) texts ≡ is_some (get_by_text l.layers t)) × (with_front (map view_entry l.found.items) (named texts (members_left l.member-iterator)) ≡ members_of (node l.fn.span)) × (index_map_len l.layers ≡ length l.found.items)
