use Rattle.kit_words.proofs.Common.{codes, refl}
use Rattle.map_drawing.proofs.LabelledLemmas.{no_name, one_name}
use Rattle.map_drawing.proofs.map_picture.Picture.push_at.Goals as goal

pub returns-in_ok-push : goal.returns-in_ok-push
returns-in_ok-push g c = one_name _ _ c.args.name.now (codes "name") _ _ refl c.requires c.in_ok-push_words.ensures

pub returns-else-is_free : goal.returns-else-is_free
returns-else-is_free g c = no_name _
