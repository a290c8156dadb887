use Rattle.kit_words.proofs.Common.{◌≡◌, ◌++◌, [], map, drop, get_or, codes, nat_lt}
use Rattle.ring_machine.specs.Common.{feature_at}
use Rattle.map_text.specs.Common.{commas}
use Rattle.script_runner.specs.Common.{ring_list_text}
use Rattle.script_runner.proofs.ListLemmas.{left_text}
use Rattle.script_runner.proofs.ring_lists.push_polygon.Given as goal

-- with the rings that are left it is the whole list
abbrev pub invariant-loop-ring : goal.invariant-loop-ring
invariant-loop-ring g l =
    let rings = get_or (feature_at l.map.doc l.f).polygons l.polygon [] in
    l.text.items ++ left_text (nat_lt 0 l.ring) (map ring_list_text (drop l.ring rings)) ≡ (l.fn.text.items ++ codes "[") ++ commas (map ring_list_text rings)
