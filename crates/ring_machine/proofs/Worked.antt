-- The maps of the worked examples, and runs of commands that compute.
use Rattle.kit_words.proofs.Common.{ℕ, pos, neg_ℤ, List, [], ◌∷◌, None, Some, Option, codes}
use Rattle.grid_geometry.specs.Common.{Position, position, orientation, is_on, are_split, cross, is_within, conflict}
use Rattle.ring_machine.specs.Common.{Document, Layer, Head, Item, Open, Close, Leaf, Kept, Feature, Polygon, Null}
use Rattle.ring_machine.specs.Common.{Text, first_pair, move_sweeps, insert_sweeps, remove_sweeps, cut, join, take_out}
use Rattle.ring_machine.specs.Common.{move_refusals, insert_refusals, remove_refusals, split_refusals, merge_refusals}
use Rattle.ring_machine.specs.Common.{thinned, Command, Answer, State, step, answers}

-- the position (x, y), neither being below 0
abbrev pub at : ℕ → ℕ → Position
at x y = position (pos x) (pos y)

-- the position (x, -y)
abbrev pub under : ℕ → ℕ → Position
under x y = position (pos x) (neg_ℤ (pos y))

-- the JSON string of one letter, by its code
abbrev pub letter : ℕ → Text
letter c = 34 ∷ c ∷ 34 ∷ []

-- a Polygon
abbrev pub polygon : ℕ → Option Text → List (List Position) → Feature
polygon n id rings = record {
  number = n;
  id = id;
  form = Polygon;
  properties = None;
  members = [];
  polygons = rings ∷ [];
}

-- a Polygon without id, as an item
abbrev pub plain : ℕ → List (List Position) → Item
plain n rings = Leaf (polygon n None rings)

-- an object whose type is null
abbrev pub null : ℕ → Text → Item
null n id = Leaf (record {
  number = n;
  id = Some id;
  form = Null;
  properties = None;
  members = [];
  polygons = [];
})

-- a collection without id and members
abbrev pub bare : Head
bare = record { id = None; properties = None; members = [] }

-- a layer that is one collection of these
abbrev pub collection : Text → List Item → Layer
collection name items = record { name = name; items = Open bare ∷ all items }
  where
    all : List Item → List Item
    all [] = Close ∷ []
    all (i ∷ is) = i ∷ all is

-- a layer that is this feature itself
abbrev pub single : Text → Feature → Layer
single name f = record { name = name; items = Leaf f ∷ [] }

-- a topology without transform
abbrev pub document : List Layer → Document
document layers = record { transform = None; layers = layers; members = [] }

-- opened: the next number is that of the features
abbrev pub opened : Document → ℕ → State
opened d n = record { doc = d; next = n; past = [] }

-- the answers to the commands on the opened map of n features, of which depth changes are kept
unfoldable pub run : ℕ → Document → ℕ → List Command → List Answer
unfolding step move_refusals insert_refusals remove_refusals split_refusals merge_refusals
    first_pair move_sweeps insert_sweeps remove_sweeps cut join take_out thinned
    conflict cross is_within is_on are_split orientation
run depth d n cs = answers depth (opened d n) cs

-- ---- two squares

abbrev pub square_a : List Position
square_a = at 0 0 ∷ at 10 0 ∷ at 10 10 ∷ at 0 10 ∷ []

abbrev pub square_b : List Position
square_b = at 10 0 ∷ at 20 0 ∷ at 20 10 ∷ at 10 10 ∷ []

-- both squares in a collection
abbrev pub land : Layer
land =
    collection (letter 76)
    (Leaf (polygon 0 (Some (letter 65)) (square_a ∷ []))
    ∷ Leaf (polygon 1 (Some (letter 66)) (square_b ∷ []))
    ∷ [])

-- two squares with a common side
abbrev pub M : Document
M = document (land ∷ [])

-- square A with an id, properties and a member that the editor does not know
abbrev pub described : Feature
described = record (polygon 0 (Some (letter 65)) (square_a ∷ [])) {
  properties = Some (codes "{\"n\":1}");
  members = record { name = codes "\"k\""; value = codes "2" } ∷ [];
}

-- the ring round both squares
abbrev pub both_squares : List Position
both_squares = at 0 0 ∷ at 10 0 ∷ at 20 0 ∷ at 20 10 ∷ at 10 10 ∷ at 0 10 ∷ []

-- M, and above it a layer that is the union of the squares
abbrev pub S : Document
S = document (land ∷ single (letter 83) (polygon 2 None (both_squares ∷ [])) ∷ [])

-- ---- other maps

-- a polygon below the square, with a dent
abbrev pub dented : List Position
dented = under 0 10 ∷ under 10 10 ∷ at 10 0 ∷ under 5 2 ∷ at 0 0 ∷ []

-- a square, and below it a polygon with a dent, each the geometry of its layer
abbrev pub E : Document
E = document
    (single (letter 97) (polygon 0 None (square_a ∷ []))
    ∷ single (letter 98) (polygon 1 None (dented ∷ []))
    ∷ [])

-- a hole at a corner of both squares
abbrev pub corner_hole : List Position
corner_hole = at 0 0 ∷ at 2 4 ∷ at 4 2 ∷ []

-- a hole that turns right
abbrev pub square_hole : List Position
square_hole = at 14 4 ∷ at 14 6 ∷ at 16 6 ∷ at 16 4 ∷ []

-- a polygon with two holes
abbrev pub H : Document
H = document
    (collection (letter 104) (plain 0 (both_squares ∷ corner_hole ∷ square_hole ∷ []) ∷ []) ∷ [])

-- square A with a dent in its right side
abbrev pub dented_right : List Position
dented_right =
    at 0 0 ∷ at 10 0 ∷ at 10 3 ∷ at 8 5 ∷ at 10 7 ∷ at 10 10 ∷ at 0 10 ∷ []

-- square B with a dent in its left side
abbrev pub dented_left : List Position
dented_left =
    at 10 0 ∷ at 20 0 ∷ at 20 10 ∷ at 10 10 ∷ at 10 7 ∷ at 12 5 ∷ at 10 3 ∷ []

-- two neighbours with a gap between them: two common runs
abbrev pub L : Document
L = document
    (collection (letter 108) (plain 0 (dented_right ∷ []) ∷ plain 1 (dented_left ∷ []) ∷ []) ∷ [])

-- square B with a tip in its left side that reaches the dent of A
abbrev pub tipped_left : List Position
tipped_left =
    at 8 5 ∷ at 12 4 ∷ at 10 3 ∷ at 10 0 ∷ at 20 0 ∷ at 20 10 ∷ at 10 10 ∷ at 10 7 ∷ at 12 6 ∷ []

-- a small square
abbrev pub small_square : List Position
small_square = at 0 0 ∷ at 4 0 ∷ at 4 4 ∷ at 0 4 ∷ []

-- a ring round two sides of it, with a gap at the upper one
abbrev pub round_it : List Position
round_it = at 0 4 ∷ at 2 6 ∷ at 4 4 ∷ at 4 0 ∷ at 8 0 ∷ at 8 8 ∷ at 0 8 ∷ []

-- two neighbours that also touch at a position
abbrev pub C : Document
C = document
    (collection (letter 99) (plain 0 (small_square ∷ []) ∷ plain 1 (round_it ∷ []) ∷ []) ∷ [])

-- the ring of a triangle
abbrev pub triangle : List Position
triangle = at 0 0 ∷ at 5 0 ∷ at 5 5 ∷ []

-- a triangle in a collection of its own, a kept point, and an object whose type is null
abbrev pub Q : Document
Q = document (record {
  name = letter 122;
  items =
      Open bare ∷ Open bare ∷ plain 0 (triangle ∷ []) ∷ Close ∷
      Kept [] ∷ null 1 (55 ∷ []) ∷ Close ∷ [];
} ∷ [])

-- a larger square
abbrev pub large_square : List Position
large_square = at 0 0 ∷ at 30 0 ∷ at 30 30 ∷ at 0 30 ∷ []

-- a triangle inside it
abbrev pub small_triangle : List Position
small_triangle = at 3 8 ∷ at 5 8 ∷ at 3 10 ∷ []

-- a square, and a small triangle inside it
abbrev pub T : Document
T = document
    (collection (letter 116)
    (plain 0 (large_square ∷ []) ∷ plain 1 (small_triangle ∷ []) ∷ [])
    ∷ [])
