use Rattle.kit_words.proofs.Common.{◌≡◌, ◌++◌, map, take, codes, signed_decimal}
use Rattle.map_text.specs.Common.{commas}
use Rattle.topo_writer.proofs.texts.push_ring.Given as goal

abbrev pub invariant-loop-i : goal.invariant-loop-i
invariant-loop-i g l = l.text.items ≡ (l.fn.text.items ++ codes "[") ++ commas (map signed_decimal (take l.i l.indexes))
