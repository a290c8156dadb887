use Rattle.kit_words.proofs.Common.{sym, ap, ◌∙◌, ◌++◌, get_or, map, Some, option_to_list}
use Rattle.std.proofs.Common.{append-nil}
use Rattle.topo_outline.specs.declared.fault.RingAt.{RingAt}
use Rattle.walk_faults.specs.Common.{features_seen}
use Rattle.place_text.specs.Common.{place_at, Short}
use Rattle.place_text.proofs.ShortWalks.{short_more}
use Rattle.place_text.proofs.places.push_short.Goals as goal
use Rattle.place_text.proofs.places.push_short.Goals.{in-Some+in_ok-push, in_default}

pub loop-number-preserved : goal.loop-number-preserved
loop-number-preserved g c =
    let features = features_seen c.args.walks.now in
    let short = c.args.short.now in
    let i = c.loop-number.number in
    let d : RingAt = record { feature = 0; polygon = 0; ring = 0 } in
    let r : RingAt = get_or short i d in
    let before = c.loop-number.places.items in
    short_more features short i d c.args.places.now.items before c.match-first_of.places.items c.first_of.result
    c.loop-number-test.true c.first_of.ensures c.loop-number.invariant
    (elim c.match-first_of.branch [
      | in-Some+in_ok-push w ↦
          ap (λ z. z.items) w.places-is ∙ w.in_ok-push.ensures.items
          ∙ ap (λ o. before ++ map (place_at Short i (Some r)) (option_to_list o)) (sym w.in-Some.is)
      | in_default w ↦
          ap (λ z. z.items) w.places-is ∙ sym (append-nil before)
          ∙ ap (λ o. before ++ map (place_at Short i (Some r)) (option_to_list o)) (sym w.in_default.is)
    ])
