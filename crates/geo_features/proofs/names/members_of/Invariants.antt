use Rattle.kit_words.proofs.Common.{◌≡◌, ℕ, List, map, contains_text, list_any, bytes_eq}
use Rattle.json_spans.specs.Common.{members_left}
use Rattle.topo_outline.specs.Common.{EntryNode, kept_text, members_of, named, view_kept}
use Rattle.topo_outline.proofs.Common.{with_front}
use Rattle.geo_features.proofs.names.members_of.Given as goal

abbrev pub invariant-loop-member : goal.invariant-loop-member
invariant-loop-member g l = record {
  texts : List (List ℕ);
  front : List EntryNode;
  seen : (t : List ℕ) → list_any (bytes_eq t) texts ≡ contains_text l.seen t;
  found : map view_kept l.found.items ≡ map kept_text front;
  rest : with_front front (named texts (members_left l.member-iterator)) ≡ members_of (record { at_byte = 0; bytes = l.fn.object });
}
