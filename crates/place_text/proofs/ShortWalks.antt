-- The places of walks of fewer than three positions, one after another.
use Rattle.kit_words.proofs.Common.{◌≡◌, ◌<◌, ◌+◌, ℕ, ap, ◌∙◌, List, ◌++◌, map, length, take, get_or, Option, Some}
use Rattle.kit_words.proofs.Common.{option_to_list, get_or_default}
use Rattle.grid_geometry.specs.Common.{Position}
use Rattle.topo_outline.specs.declared.fault.RingAt.{RingAt}
use Rattle.walk_faults.specs.Common.{flat_map_at}
use Rattle.place_text.specs.Common.{Short, Place, place_at, short_place, walk_at}
use Rattle.place_text.proofs.Numbered.{one_more}

-- one walk more, whose first position was found or not
pub short_more : (features : List (List (List (List Position)))) (short : List RingAt) (i : ℕ) (d : RingAt) (old before after : List Place) (found : Option Position)
    → i < length short → option_to_list found ≡ take 1 (walk_at features (get_or short i d))
    → before ≡ old ++ flat_map_at (short_place features) 0 (take i short)
    → after ≡ before ++ map (place_at Short i (Some (get_or short i d))) (option_to_list found)
    → after ≡ old ++ flat_map_at (short_place features) 0 (take (i + 1) short)
short_more features short i d old before after found l e so_far is =
    one_more (short_place features) short i (get_or short i d) old before after l (get_or_default short i d (get_or short i d) l) so_far
    (is ∙ ap (λ ps. before ++ map (place_at Short i (Some (get_or short i d))) ps) e)
