use Rattle.map_drawing.proofs.LabelledLemmas.{labelled, named}
use Rattle.map_drawing.proofs.map_picture.Picture.close_map.Goals as goal

pub returns-clause-named : goal.returns-clause-named
returns-clause-named g c = named c.push_place.result c.args.view.conflict _ _ c.push_place.ensures

pub returns-clause-labelled : goal.returns-clause-labelled
returns-clause-labelled g c =
    labelled c.push_place.result c.args.view.has_ids c.args.view.conflict _ _ _ _ _ c.in_ok-close_group.ensures c.in_ok-close_picture.ensures
    c.in_ok-push_asked.ensures c.push_place.ensures
