use Rattle.kit_words.proofs.Common.{◌≡◌, drop, []}
use Rattle.topo_reader.specs.Common.{first_repeat}
use Rattle.topo_reader.proofs.rings.first_repeat.Given as goal

abbrev pub invariant-loop-pos : goal.invariant-loop-pos
invariant-loop-pos g l = first_repeat l.seen.keys (drop l.pos-index l.ring) ≡ first_repeat [] l.fn.ring
