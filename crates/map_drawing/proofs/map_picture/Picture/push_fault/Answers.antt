use Rattle.kit_words.proofs.Common.{codes, pos, refl, rules}
use Rattle.map_drawing.proofs.LabelledLemmas.{placed}
use Rattle.map_drawing.proofs.map_picture.Picture.push_fault.Goals as goal

pub returns : goal.returns
returns g c =
    placed c.args.conflict _ _ _ (codes "gone") c.as_bytes.result.now (pos 20) _ c.in_ok-push_circle.ensures c.in_ok-push_words.ensures refl refl
    (search rules)
