use Rattle.kit_words.proofs.Common.{ap, ◌∙◌, take_all}
use Rattle.walk_faults.specs.Common.{features_seen}
use Rattle.walk_mending.specs.Common.{is_bounding_in}
use Rattle.walk_mending.proofs.Bounds.{listed}
use Rattle.walk_mending.proofs.bounding.bounding_segments.Goals as goal

pub returns : goal.returns
returns g c = listed c.loop-feature.found.items c.sort_segments.new.segments.items (is_bounding_in (features_seen c.args.polygons.now))
    (λ s. c.loop-feature.invariant s ∙ ap (λ z. is_bounding_in (features_seen z) s) (take_all c.loop-feature.feature-index c.args.polygons.now c.loop-feature-test.false))
    c.sort_segments.ensures
