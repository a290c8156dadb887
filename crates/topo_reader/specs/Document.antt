-- What was read, as a document: each feature with its number and its polygons.
use Rattle.std.specs.Prelude.{◌≡◌, ◌≤◌, nat_le, Bool, not, ◌&&◌, List, length, Option, IsTrue}
use Rattle.std.specs.List.{list_all}
use Rattle.grid_geometry.specs.Common.{Position, position_eq, edges}
use Rattle.ring_machine.specs.Common.{is_ring, is_distinct, Text, Member, Document, rings, size, WellFormed}
use Rattle.topo_outline.specs.Common.{LayerText, leaves, layers_from, KeepsTexts}

-- the polygons of one feature: an outer ring and its holes each (RFC 7946, 3.1.6)
abbrev pub Polygons : Type 0
Polygons = List (List (List Position))

-- a topology as it is read: its shape, and by feature, polygon and ring its positions
pub record Opened : Type 0 where
  pub transform : Option Text
  pub layers : List LayerText
  pub members : List Member
  pub polygons : List Polygons

-- the document: features are numbered from 0 in the order of the text
abbrev pub document_of : Opened → Document
document_of o = record {
  transform = o.transform;
  layers = layers_from 0 o.polygons o.layers;
  members = o.members;
}

-- a walk: a closed list of positions in which no neighbours are equal
abbrev pub is_walk : List Position → Bool
is_walk ps = list_all (λ e. not (position_eq e.0 e.1)) (edges ps)

-- a walk that is a ring, wherever it begins: at least three positions, no two equal
abbrev pub is_simple : List Position → Bool
is_simple walk = nat_le 3 (length walk) && is_distinct walk

-- what every opened topology is: each feature has its polygons, its document is well formed, its
-- texts are ones that opening would keep, each list passes the test, and the numbers of features
-- and positions are within their limits
pub record IsOf (test : List Position → Bool) (o : Opened) : Type 0 where
  pub counted : length o.polygons ≡ length (leaves o.layers)
  pub formed : WellFormed (document_of o)
  pub keeps : KeepsTexts (document_of o)
  pub few : length (leaves o.layers) ≤ 200000
  pub are_rings : IsTrue (list_all test (rings (document_of o)))
  pub small : size (document_of o) ≤ 4000000

-- each list is a ring
abbrev pub IsOfRings : Opened → Type 0
IsOfRings o = IsOf is_ring o

-- each list is a walk
abbrev pub IsOfWalks : Opened → Type 0
IsOfWalks o = IsOf is_walk o
