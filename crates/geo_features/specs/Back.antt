-- What comes back of a text: what its values say, read by the grammar of JSON (RFC 8259).
use Rattle.std.specs.Prelude.{◌≡◌, ℕ, ℤ, Bool, List, [], ◌∷◌, ◌++◌, map, Option, Some, option_map, codes, unwrap_or}
use Rattle.grid_geometry.specs.Common.{Position}
use Rattle.ring_machine.specs.Common.{Text, Member, Head}
use Rattle.json_spans.specs.Common.{Node, items, members}
use Rattle.map_text.specs.Common.{further, member, member_if, member_text}
use Rattle.decimal_texts.specs.Common.{parts_of}
use Rattle.grid_decimals.specs.Common.{GridOf, coordinate_of, units_of}
use Rattle.geo_features.specs.Style.{Style}
use Rattle.geo_features.specs.Rings.{closed, directed, ring_text}
use Rattle.geo_features.specs.Features.{feature_begin}

-- the whole text as a value
abbrev pub value_of_text : Text → Node
value_of_text t = record { at_byte = 0; bytes = t }

-- ---- a ring

-- the numbers of a position, in units of 10^-d
abbrev pub position_back : ℕ → Node → List (Option ℤ)
position_back d position = map (λ c. option_map (units_of d) (parts_of c.bytes)) (items position)

abbrev pub ring_back : ℕ → Text → List (List (Option ℤ))
ring_back d t = map (position_back d) (items (value_of_text t))

-- where a position lies, in units of the last decimal
abbrev pub place_of : GridOf → Position → List (Option ℤ)
place_of g p = Some (coordinate_of g.x p.x) ∷ Some (coordinate_of g.y p.y) ∷ []

-- the round trip of a ring: where all decimals are written, the text says exactly where its positions lie
abbrev pub IsRingBack : Style → Bool → List Position → Type 0
IsRingBack s is_outer ring = s.decimals ≡ s.grid.decimals
    → ring_back s.grid.decimals (ring_text s is_outer ring) ≡ map (place_of s.grid) (closed (directed s is_outer ring))

-- ---- a Feature

abbrev pub members_back : Text → List Member
members_back t = map (λ m. member m.0.bytes m.1.bytes) (members (value_of_text t))

-- the members that a Feature with this geometry and these members of its own has to have
abbrev pub feature_parts : Head → Text → List Member → List Member
feature_parts h geometry own =
    member (codes "\"type\"") (codes "\"Feature\"")
    ∷ (member_if (codes "\"id\"") h.id
    ++ (member (codes "\"properties\"") (unwrap_or h.properties (codes "null"))
    ∷ (member (codes "\"geometry\"") geometry ∷ own)))

-- the round trip of a Feature: its id, its properties, its geometry and its members come back byte for byte
abbrev pub IsFeatureBack : Head → Text → List Member → Type 0
IsFeatureBack h geometry own =
    members_back (feature_begin h ++ (geometry ++ (further (map member_text own) ++ codes "}"))) ≡ feature_parts h geometry own
