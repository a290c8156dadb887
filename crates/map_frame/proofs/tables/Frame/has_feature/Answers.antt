use Rattle.kit_words.proofs.Common.{sym, ap, ◌∙◌, is_some}
use Rattle.ring_machine.specs.Common.{has_feature}
use Rattle.ring_machine.proofs.Common.{is_some-mapped}
use Rattle.map_frame.specs.Common.{live}
use Rattle.map_frame.proofs.EditedStands.{has_is}
use Rattle.map_frame.proofs.tables.Frame.has_feature.Goals as goal

pub returns : goal.returns
returns g c =
    let n = c.args.n in
    c.is_some.ensures
    ∙ sym (is_some-mapped (λ f. f.now) c.live_feature.result)
    ∙ ap is_some (c.live_feature.ensures ∙ ap (λ fs. live fs n) c.as_slice.ensures.value)
    ∙ sym (has_is c.self.inside.tables c.self.invariant n)
    ∙ ap (λ f. has_feature f.doc n) c.self.view_is
