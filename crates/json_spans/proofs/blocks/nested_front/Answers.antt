use Rattle.kit_words.proofs.Common.{drop, refl, arith, chunk-drop, length-chunk, prefix_len-le-length, chunk}
use Rattle.json_spans.specs.Common.{is_unquoted, is_unclosed, opens}
use Rattle.json_spans.proofs.Nested.{nested_in, remains_in, few}
use Rattle.json_spans.proofs.blocks.nested_front.Goals as goal

pub opened-requires : goal.opened-requires
opened-requires c = omega (arith, c.unclosed_lanes-lead.ensures, prefix_len-le-length is_unclosed (chunk 0 32 c.args.bytes.now), length-chunk 0 32 c.args.bytes.now (omega arith))

pub overflow_add-room : goal.overflow_add-room
overflow_add-room c =
    omega (arith, few opens c.unclosed_lanes-lead.result c.opened.result (chunk 0 32 c.args.bytes.now) c.opened.ensures, c.unclosed_lanes-lead.ensures, prefix_len-le-length is_unclosed (chunk 0 32 c.args.bytes.now), length-chunk 0 32 c.args.bytes.now (omega arith))

pub closed-closing-requires : goal.closed-closing-requires
closed-closing-requires c = omega (arith, c.nested_lanes-len.ensures, prefix_len-le-length is_unquoted (chunk 0 32 c.args.bytes.now), length-chunk 0 32 c.args.bytes.now (omega arith))

pub opened-opening-requires : goal.opened-opening-requires
opened-opening-requires c = omega (arith, c.nested_lanes-len.ensures, prefix_len-le-length is_unquoted (chunk 0 32 c.args.bytes.now), length-chunk 0 32 c.args.bytes.now (omega arith))

pub overflow_add-result : goal.overflow_add-result
overflow_add-result c =
    omega (arith, few opens c.nested_lanes-len.result c.opened-opening.result (chunk 0 32 c.args.bytes.now) c.opened-opening.ensures, c.nested_lanes-len.ensures, prefix_len-le-length is_unquoted (chunk 0 32 c.args.bytes.now), length-chunk 0 32 c.args.bytes.now (omega arith))

pub overflow_sub-result : goal.overflow_sub-result
overflow_sub-result c =
    remains_in c.unclosed_lanes-lead.result c.nested_lanes-len.result c.args.level c.opened.result c.closed-closing.result c.opened-opening.result (chunk 0 32 c.args.bytes.now) c.unclosed_lanes-lead.ensures c.opened.ensures c.closed-closing.ensures c.opened-opening.ensures (omega arith) c.if-closing-room.false

pub returns-clause-same : goal.returns-clause-same
returns-clause-same c = λ sep.
    let xs = c.args.bytes.now in
    nested_in c.unclosed_lanes-lead.result c.nested_lanes-len.result sep c.args.level c.opened.result c.closed-closing.result c.opened-opening.result _ (chunk 0 32 xs) (drop 32 xs) xs (chunk-drop 0 32 xs) c.nested_lanes-len.ensures c.unclosed_lanes-lead.ensures c.opened.ensures c.closed-closing.ensures c.opened-opening.ensures refl (omega arith) c.if-closing-room.false

pub returns-clause-bound : goal.returns-clause-bound
returns-clause-bound c = omega (arith, c.nested_lanes-len.ensures, prefix_len-le-length is_unquoted (chunk 0 32 c.args.bytes.now), length-chunk 0 32 c.args.bytes.now (omega arith))

pub returns-clause-level : goal.returns-clause-level
returns-clause-level c = omega (arith, few opens c.nested_lanes-len.result c.opened-opening.result (chunk 0 32 c.args.bytes.now) c.opened-opening.ensures)
