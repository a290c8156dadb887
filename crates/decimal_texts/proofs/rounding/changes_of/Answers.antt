use Rattle.kit_words.proofs.Common.{rules, arith, map-append, to_z-of_z}
use Rattle.json_spans.specs.Common.{node}
use Rattle.decimal_texts.specs.Common.{new_text}
use Rattle.decimal_texts.proofs.Changing.{each_turn, each_stop, each_end, gives_fault, new_is, new_fails}
use Rattle.decimal_texts.proofs.rounding.changes_of.Goals as goal
use mir.Syntax.{w128}
use mir.Val.{SFits}

pub loop-part-preserved : goal.loop-part-preserved
loop-part-preserved g c =
    let fits : SFits w128 c.in_ok-number.number = search rules in
    rw (c.in_ok-push.ensures.items, map-append, to_z-of_z w128 c.in_ok-number.number fits)
    (each_turn (new_text c.args.grid.digits c.args.grid.finer) _ _ c.args.parts.now c.loop-part.part-index c.part-item.result _
    (omega arith) c.part-item.is
    (new_is c.args.grid.digits c.args.grid.finer (node c.part-item.result) c.in_ok-number.number c.in_ok-number.ensures) c.loop-part.invariant)

pub returns-in_err-number : goal.returns-in_err-number
returns-in_err-number g c =
    gives_fault _ c.in_err-number.field-0.0 _ _ c.from_residual.ensures.1
    (each_stop c.in_err-number.field-0.0 (new_text c.args.grid.digits c.args.grid.finer) _ c.args.parts.now c.loop-part.part-index c.part-item.result _
    (omega arith) c.part-item.is
    (new_fails c.in_err-number.field-0.0 c.args.grid.digits c.args.grid.finer (node c.part-item.result) c.in_err-number.ensures) c.loop-part.invariant)

pub returns : goal.returns
returns g c =
    each_end (new_text c.args.grid.digits c.args.grid.finer) _ c.args.parts.now c.loop-part.part-index _ (omega arith) c.loop-part.invariant
