use Rattle.map_drawing.proofs.LabelledLemmas.{is_name, is_number, no_name}
use Rattle.map_drawing.proofs.map_picture.Picture.push_within.Goals as goal

pub push_at-requires : goal.push_at-requires
push_at-requires g c = is_name _ _ _ _ c.as_slice-name.ensures.value c.in_ok-whole.ensures

pub push_at-requires-in-Some-place_in : goal.push_at-requires-in-Some-place_in
push_at-requires-in-Some-place_in g c = is_number _ _ _ c.as_slice-number.ensures.value c.in_ok-short.ensures

pub returns : goal.returns
returns g c = no_name _
