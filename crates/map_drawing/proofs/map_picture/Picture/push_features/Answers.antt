use Rattle.kit_words.proofs.Common.{arith, ints}
use Rattle.map_drawing.proofs.LabelledLemmas.{above_list}
use Rattle.map_drawing.proofs.NamedLemmas.{with_list}
use Rattle.map_drawing.proofs.map_picture.Picture.push_features.Goals as goal

pub open-requires : goal.open-requires
open-requires g c =
    let rows = c.rows_of.ensures in
    (omega (arith, ints, rows.0, rows.1), omega (arith, ints, rows.0, rows.1))

pub returns-clause-named : goal.returns-clause-named
returns-clause-named g c = with_list c.push_list.result c.args.view.conflict _ _ c.in_ok-close_map.ensures.named c.push_list.ensures

pub returns-clause-labelled : goal.returns-clause-labelled
returns-clause-labelled g c =
    above_list c.push_list.result c.args.view.has_ids c.args.view.conflict _ _ c.in_ok-close_map.ensures.labelled c.push_list.ensures
