use Rattle.kit_words.proofs.Common.{ap, ◌∙◌, option_map, map, None, Some}
use Rattle.map_frame.specs.Common.{polygon_numbers}
use Rattle.map_frame.proofs.EditedStands.{read_as}
use Rattle.map_frame.proofs.tables.Frame.polygons.Goals as goal

pub returns-in_err-feature : goal.returns-in_err-feature
returns-in_err-feature g c =
    ap (option_map (λ ps. map polygon_numbers ps.now)) c.from_residual.ensures
    ∙ read_as c.self.inside.tables c.self.invariant (λ f. f.polygons) c.args.n c.as_slice.result.now None c.in_err-feature.ensures
    c.as_slice.ensures.value _ c.self.view_is

pub returns : goal.returns
returns g c =
    ap (λ ps. Some (map polygon_numbers ps)) c.as_slice-2.ensures.value
    ∙ read_as c.self.inside.tables c.self.invariant (λ f. f.polygons) c.args.n c.as_slice.result.now (Some c.in_ok-feature.feature.now)
    c.in_ok-feature.ensures c.as_slice.ensures.value _ c.self.view_is
