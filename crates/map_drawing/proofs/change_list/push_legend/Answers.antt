use Rattle.kit_words.proofs.Common.{codes, pos, refl}
use Rattle.map_drawing.proofs.LabelledLemmas.{headed}
use Rattle.map_drawing.proofs.change_list.push_legend.Goals as goal

pub returns : goal.returns
returns g c =
    headed _ _ _ _ _ _ _ _ (codes "gone") (codes "borders gone (dashed)") (pos 20) _ c.in_ok-push_words.ensures refl refl refl
    c.in_ok-push_words-2.ensures c.in_ok-push_words-3.ensures c.in_ok-push_words-4.ensures
