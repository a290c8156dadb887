use Rattle.kit_words.proofs.Common.{◌≡◌, ◌++◌, codes, map, take}
use Rattle.topo_reader.specs.Common.{positions_of}
use Rattle.map_text.specs.Common.{commas}
use Rattle.geo_features.specs.Seen.{view_style}
use Rattle.geo_features.proofs.RingTexts.{ring_parts}
use Rattle.geo_features.proofs.style.Style.push_polygon.Given as goal

abbrev pub invariant-loop-i : goal.invariant-loop-i
invariant-loop-i g l = l.text.items ≡ (l.fn.text.items ++ codes "[") ++ commas (ring_parts (view_style l.self) (map positions_of (take l.i l.rings)))
