use Rattle.kit_words.proofs.Common.{◌∙◌, None, Some}
use Rattle.map_frame.specs.Common.{shown}
use Rattle.map_frame.proofs.EditedStands.{read_as}
use Rattle.map_frame.proofs.tables.Frame.feature.Goals as goal

pub returns-in_err-feature : goal.returns-in_err-feature
returns-in_err-feature g c =
    c.from_residual.ensures
    ∙ read_as c.self.inside.tables c.self.invariant shown c.args.n c.as_slice.result.now None c.in_err-feature.ensures c.as_slice.ensures.value _ c.self.view_is

pub returns : goal.returns
returns g c =
    read_as c.self.inside.tables c.self.invariant shown c.args.n c.as_slice.result.now (Some c.in_ok-feature.feature.now) c.in_ok-feature.ensures
    c.as_slice.ensures.value _ c.self.view_is
