use Rattle.kit_words.proofs.Common.{◌∙◌, ◌++◌, ap, refl, subst, true}
use Rattle.segment_index.specs.Common.{Gives, times_by}
use Rattle.local_planarity.proofs.Sweeping.{ends_held}
use Rattle.local_planarity.proofs.sweeps.holds_other.Goals as goal

pub returns : goal.returns
returns g c =
    let held = g.I.SegIndex.held c.args.index.now in
    let times = times_by (g.I.SegIndex.cells c.args.index.now) in
    let given = subst (λ r. Gives held times r c.in_ok-near.near.items c.candidates.new.out.items true) c.box_of_three.ensures c.in_ok-candidates.ensures in
    let found = c.as_slice.ensures.value ∙ given.appended ∙ ap (λ z. z ++ given.found) c.in_ok-near.ensures.items in
    λ ps ends. ends_held held c.args.these.now c.args.a c.args.b c.args.c given.found ps c.holds_end.result given.among (given.covers refl)
    (rw found at c.holds_end.ensures) ends
