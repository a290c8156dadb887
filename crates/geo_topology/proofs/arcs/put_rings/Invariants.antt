use Rattle.kit_words.proofs.Common.{◌≡◌, ◌++◌, length, map, true}
use Rattle.json_spans.specs.Common.{node, items, items_left}
use Rattle.geo_topology.specs.Text.{ring_texts}
use Rattle.geo_topology.proofs.arcs.put_rings.Given as goal

abbrev pub invariant-loop-ring : goal.invariant-loop-ring
invariant-loop-ring g l =
    (l.made.text.items ++ ring_texts (length l.rings.items) l.is_first (items_left l.ring-iterator) ≡ l.initial.made.text.items ++ ring_texts (length l.initial.rings.items) true (items (node l.fn.polygon)))
    × (l.made.parts ≡ l.initial.made.parts)
    × (map node l.rings.items ++ items_left l.ring-iterator ≡ map node l.initial.rings.items ++ items (node l.fn.polygon))
