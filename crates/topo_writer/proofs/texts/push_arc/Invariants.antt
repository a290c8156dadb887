use Rattle.kit_words.proofs.Common.{◌≡◌, ◌++◌, map, take, codes}
use Rattle.map_text.specs.Common.{commas, pair_text, pairs}
use Rattle.topo_writer.proofs.texts.push_arc.Given as goal

abbrev pub invariant-loop-i : goal.invariant-loop-i
invariant-loop-i g l = l.text.items ≡ (l.fn.text.items ++ codes "[") ++ commas (map pair_text (take l.i (pairs l.delta l.arc)))
