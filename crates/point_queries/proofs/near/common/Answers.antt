use Rattle.kit_words.proofs.Common.{◌<◌, ◌∙◌, sym, ap, [], ◌∷◌, ◌++◌, length, get_or, arith, list_any}
use Rattle.map_frame.specs.declared.names.RingName.{RingName}
use Rattle.point_queries.specs.Common.{is_name}
use Rattle.point_queries.proofs.Odds.{filter_yes, filter_no}
use Rattle.point_queries.proofs.near.common.Goals as goal
use Rattle.point_queries.proofs.near.common.Goals.{then-contains+in_ok-push, else-contains}

abbrev none : RingName
none = record { feature = 0; polygon = 0; ring = 0 }

pub loop-name-preserved : goal.loop-name-preserved
loop-name-preserved g c =
    let names = c.args.names.now in
    let i = c.loop-name.name-index in
    let test = λ (name : RingName). list_any (λ other. is_name other name) c.args.others.now in
    let within : i < length names = omega (arith, c.loop-name-test.true) in
    elim c.if-contains.branch [
      | then-contains+in_ok-push w ↦
          ap (λ z. z.items) w.found-is ∙ w.in_ok-push.ensures.items ∙ ap (λ z. z ++ get_or names i none ∷ []) c.loop-name.invariant
          ∙ sym (filter_yes test names i none within (sym c.contains.ensures.value ∙ w.if-contains.true))
      | else-contains w ↦
          ap (λ z. z.items) w.found-is ∙ c.loop-name.invariant
          ∙ sym (filter_no test names i none within (sym c.contains.ensures.value ∙ w.if-contains.false))
    ]
