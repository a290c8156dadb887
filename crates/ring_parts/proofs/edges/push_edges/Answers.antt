use Rattle.kit_words.proofs.Common.{ap, ◌++◌, arith, list_is}
use Rattle.grid_geometry.specs.Common.{edges}
use Rattle.ring_parts.proofs.edges.push_edges.Goals as goal

pub loop-to-init : goal.loop-to-init
loop-to-init g c = record {
  along = ap (λ ring. c.args.found.now.items ++ edges ring) (list_is c.args.ring.now c.first-item.result c.in-len1-up.len_at_least c.first-item.is);
  room = omega (arith, c.requires, c.in-len1-up.len_at_least);
}
