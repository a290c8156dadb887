use Rattle.map_drawing.proofs.LabelledLemmas as labelled
use Rattle.map_drawing.proofs.NamedLemmas as named
use Rattle.map_drawing.proofs.map_picture.Picture.with_features.Goals as goal

pub returns-clause-named : goal.returns-clause-named
returns-clause-named g c = named.ended c.close.result c.args.view.conflict _ c.in_ok-push_features.ensures.named c.close.ensures

pub returns-clause-labelled : goal.returns-clause-labelled
returns-clause-labelled g c =
    labelled.ended c.close.result c.args.view.has_ids c.args.view.conflict _ c.in_ok-push_features.ensures.labelled c.close.ensures
