-- What comes back of the text of a ring and of a Feature, worked out.
use Rattle.kit_words.proofs.Common.{refl, pos, negsuc, List, [], ◌∷◌, Some, codes, true, false, digits}
use Rattle.grid_geometry.specs.Common.{Position}
use Rattle.ring_machine.proofs.Common.{at, null, bare}
use Rattle.json_spans.specs.Common.{part_len, parts_from, value_from}
use Rattle.map_text.specs.Common.{member}
use Rattle.grid_decimals.specs.Common.{shortest}
use Rattle.geo_features.specs.Style.{Style}
use Rattle.geo_features.specs.Back.{IsFeatureBack, IsRingBack}

-- a triangle that turns to the right
abbrev to_the_right : List Position
to_the_right = at 0 0 ∷ at 5 20 ∷ at 5 0 ∷ []

-- a grid of tenths, turned over
abbrev tenths : Style
tenths = record {
  grid = record {
    is_given = true;
    decimals = 1;
    x = record { scale = pos 1; translate = pos 0 };
    y = record { scale = negsuc 0; translate = pos 25 };
  };
  decimals = 1;
  keeps_winding = false;
}

ring_comes_back : IsRingBack tenths true to_the_right
unfolding digits shortest value_from part_len parts_from
ring_comes_back all = refl

feature_comes_back : IsFeatureBack (record bare { id = Some (codes "\"a,b\"") }) (codes "null") (member (codes "\"m\"") (codes "[1, {}]") ∷ [])
unfolding part_len parts_from
feature_comes_back = refl
