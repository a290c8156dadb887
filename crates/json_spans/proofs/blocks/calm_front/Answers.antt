use Rattle.kit_words.proofs.Common.{sym, ◌∙◌, drop, arith, chunk-drop, length-chunk, prefix_len-le-length, chunk}
use Rattle.json_spans.specs.Common.{is_calm}
use Rattle.json_spans.proofs.Calm.{calm_in}
use Rattle.json_spans.proofs.blocks.calm_front.Goals as goal

pub are_odd-requires : goal.are_odd-requires
are_odd-requires c = omega (arith, c.calm_lanes-len.ensures, prefix_len-le-length is_calm (chunk 0 32 c.args.bytes.now), length-chunk 0 32 c.args.bytes.now (omega arith))

pub returns-clause-same : goal.returns-clause-same
returns-clause-same c = λ sep.
    let xs = c.args.bytes.now in
    calm_in c.calm_lanes-len.result sep c.args.skip c.turned.result c.are_odd.result c.args.level (chunk 0 32 xs) (drop 32 xs) xs (chunk-drop 0 32 xs) c.calm_lanes-len.ensures c.are_odd.ensures c.turned.ensures (omega arith) (sym c.is_escaped.ensures ∙ c.if-is_escaped.false)

pub returns-clause-bound : goal.returns-clause-bound
returns-clause-bound c = omega (arith, c.calm_lanes-len.ensures, prefix_len-le-length is_calm (chunk 0 32 c.args.bytes.now), length-chunk 0 32 c.args.bytes.now (omega arith))
