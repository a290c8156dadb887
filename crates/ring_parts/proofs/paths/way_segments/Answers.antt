use Rattle.kit_words.proofs.Common.{refl, ap, ap₂, ◌∙◌, ◌++◌, ◌∷◌, [], list_is}
use Rattle.ring_machine.specs.Common.{is_distinct}
use Rattle.ring_parts.proofs.WaySegments.{segments_along, way_more, way_on, way_apart}
use Rattle.ring_parts.proofs.paths.way_segments.Goals as goal
use Rattle.ring_parts.proofs.paths.way_segments.Goals.{in-Some+in_ok-push, in_default-new}

pub loop-to-init : goal.loop-to-init
loop-to-init g c =
    let whole = list_is c.args.positions.now c.first-item.result c.in-len1-up.len_at_least c.first-item.is in
    record {
      all = ap₂ (λ y z. y ++ segments_along z) c.new-segments.ensures.items whole;
      different = ap is_distinct whole ∙ c.requires;
    }

-- no position is the one before
pub loop-to-preserved : goal.loop-to-preserved
loop-to-preserved g c =
    let h = c.loop-to.invariant in
    elim c.match-new.branch [
      | in-Some+in_ok-push w ↦ record {
        all = way_more c.loop-to.segments.items c.match-new.segments.items _ c.loop-to.from c.to-item.result _ c.loop-to.to-index c.loop-to-test.true c.to-item.is h.all
            (ap (λ v. v.items) w.segments-is ∙ w.in_ok-push.ensures.items ∙ ap (λ z. c.loop-to.segments.items ++ z ∷ []) w.in-Some.ensures.some);
        different = way_on c.loop-to.from c.to-item.result _ c.loop-to.to-index c.loop-to-test.true c.to-item.is h.different;
      }
      | in_default-new w ↦
          absurd (way_apart c.loop-to.from c.to-item.result _ c.loop-to.to-index c.loop-to-test.true c.to-item.is h.different (w.in_default-new.ensures.none.0 refl))
    ]
