use Rattle.map_drawing.proofs.LabelledLemmas as labelled
use Rattle.map_drawing.proofs.NamedLemmas as named
use Rattle.map_drawing.proofs.map_picture.Picture.with_map.Goals as goal

pub returns-clause-named : goal.returns-clause-named
returns-clause-named g c =
    named.ended c.close.result c.args.view.conflict _ (named.alone c.args.view.conflict _ c.in_ok-push_map.ensures.named) c.close.ensures

pub returns-clause-labelled : goal.returns-clause-labelled
returns-clause-labelled g c =
    let view = c.args.view in
    labelled.ended c.close.result view.has_ids view.conflict _ (labelled.alone view.has_ids view.conflict _ c.in_ok-push_map.ensures.labelled) c.close.ensures
