use Rattle.kit_words.proofs.Common.{◌<◌, ◌∙◌, sym, ap, [], ◌∷◌, ◌++◌, length, get_or, arith}
use Rattle.map_frame.specs.declared.names.RingName.{RingName}
use Rattle.point_queries.specs.Common.{is_of_holder}
use Rattle.point_queries.proofs.Odds.{filter_yes, filter_no}
use Rattle.point_queries.proofs.inside.held.Goals as goal
use Rattle.point_queries.proofs.inside.held.Goals.{then-is_held+in_ok-push, else-is_held}

abbrev none : RingName
none = record { feature = 0; polygon = 0; ring = 0 }

pub loop-ring-preserved : goal.loop-ring-preserved
loop-ring-preserved g c =
    let rings = c.args.rings.now in
    let i = c.loop-ring.ring-index in
    let test = is_of_holder c.args.polygons.now c.args.border.now in
    let within : i < length rings = omega (arith, c.loop-ring-test.true) in
    elim c.if-is_held.branch [
      | then-is_held+in_ok-push w ↦
          ap (λ z. z.items) w.found-is ∙ w.in_ok-push.ensures.items ∙ ap (λ z. z ++ get_or rings i none ∷ []) c.loop-ring.invariant
          ∙ sym (filter_yes test rings i none within (sym c.is_held.ensures ∙ w.if-is_held.true))
      | else-is_held w ↦
          ap (λ z. z.items) w.found-is ∙ c.loop-ring.invariant
          ∙ sym (filter_no test rings i none within (sym c.is_held.ensures ∙ w.if-is_held.false))
    ]
