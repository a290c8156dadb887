use Rattle.kit_words.proofs.Common.{◌≡◌, ◌++◌, map, drop, codes, nat_lt}
use Rattle.ring_machine.specs.Common.{feature_at}
use Rattle.map_text.specs.Common.{commas}
use Rattle.script_runner.specs.Common.{polygon_list_text}
use Rattle.script_runner.proofs.ListLemmas.{left_text}
use Rattle.script_runner.proofs.ring_lists.reply_to_rings.Given as goal

-- with the polygons that are left it is the whole list
abbrev pub invariant-loop-polygon : goal.invariant-loop-polygon
invariant-loop-polygon g l =
    let polygons = (feature_at l.map.doc l.f).polygons in
    l.text.items ++ left_text (nat_lt 0 l.polygon) (map polygon_list_text (drop l.polygon polygons)) ≡ (l.fn.text.items ++ codes "[") ++ commas (map polygon_list_text polygons)
