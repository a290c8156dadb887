use Rattle.kit_words.proofs.Common.{ap, ◌∙◌, None, Some}
use Rattle.map_frame.specs.Common.{texts_of}
use Rattle.map_frame.proofs.EditedStands.{read_as}
use Rattle.map_frame.proofs.tables.Frame.texts.Goals as goal

pub returns-in_ok-clone-in-Some : goal.returns-in_ok-clone-in-Some
returns-in_ok-clone-in-Some g c =
    ap Some c.in_ok-clone-in-Some.ensures.cases
    ∙ read_as c.self.inside.tables c.self.invariant texts_of c.args.n c.as_slice.result.now (Some c.in-Some.feature.now) c.in-Some.ensures
    c.as_slice.ensures.value _ c.self.view_is

pub returns-in-None : goal.returns-in-None
returns-in-None g c =
    read_as c.self.inside.tables c.self.invariant texts_of c.args.n c.as_slice.result.now None c.in-None.ensures c.as_slice.ensures.value _ c.self.view_is
