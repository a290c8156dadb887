use Rattle.kit_words.proofs.Common.{arith}
use Rattle.json_spans.specs.Common.{node}
use Rattle.geo_topology.specs.Views.{view_chunk}
use Rattle.geo_topology.proofs.Texts.{piece_turn, piece_end, rings_turn, rings_done, counted_all}
use Rattle.geo_topology.proofs.step.put_chunks.Goals as goal

pub loop-chunk-preserved : goal.loop-chunk-preserved
loop-chunk-preserved g c = (
  piece_turn view_chunk _ _ _ _ c.args.chunks.now c.loop-chunk.chunk-index c.chunk-item.result _ (omega arith) c.chunk-item.is c.in_ok-put_chunk.ensures.made (counted_all node _ _ _ c.in_ok-put_chunk.ensures.rings) c.loop-chunk.invariant.0,
  rings_turn view_chunk _ _ c.args.chunks.now c.loop-chunk.chunk-index c.chunk-item.result _ (omega arith) c.chunk-item.is c.in_ok-put_chunk.ensures.rings c.loop-chunk.invariant.1,
)

pub returns-clause-made : goal.returns-clause-made
returns-clause-made g c = piece_end view_chunk _ _ c.args.chunks.now c.loop-chunk.chunk-index _ (omega arith) c.loop-chunk.invariant.0

pub returns-clause-rings : goal.returns-clause-rings
returns-clause-rings g c = rings_done view_chunk _ c.args.chunks.now c.loop-chunk.chunk-index _ (omega arith) c.loop-chunk.invariant.1
