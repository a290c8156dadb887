-- A feature cut in two by a path.
use Rattle.std.specs.Prelude.{ℕ, ℤ, pos, negsuc, int_lt, Bool, true, false, not, ◌&&◌, ◌||◌, ◌==◌}
use Rattle.std.specs.Prelude.{if◌then◌else◌, List, [], ◌∷◌, ◌++◌, map, reverse, Option, None, Some}
use Rattle.std.specs.List.{list_any, flat_map, filter, reduce}
use Rattle.std.specs.Ordering.{int_eq}
use Rattle.grid_geometry.specs.Common.{Position, position, position_lt, signed_area, is_inside}
use Rattle.ring_machine.specs.Ring.{has, canonical, stretch}
use Rattle.ring_machine.specs.Document.{DocumentOf, Document, ItemOf, Open, Close, Leaf, Kept}
use Rattle.ring_machine.specs.Document.{FeatureOf, Feature, Polygon, Text}
use Rattle.ring_machine.specs.Parts.{in_items}

-- ---- the path

-- a path from one position over others to a last one
pub record Path : Type 0 where
  pub first : Position
  pub inner : List Position
  pub last : Position

-- the path over the positions of a list, which has at least two
abbrev pub path_of : List Position → Path
path_of [] =
    record { first = position (pos 0) (pos 0); inner = []; last = position (pos 0) (pos 0) }
path_of (p ∷ ps) = to_last ps
  where
    to_last : List Position → Path
    to_last [] = record { first = p; inner = []; last = p }
    to_last (q ∷ []) = record { first = p; inner = []; last = q }
    to_last (q ∷ r ∷ qs) = let rest = to_last (r ∷ qs) in record rest { inner = q ∷ rest.inner }

-- ---- the two parts of a ring

-- the outer ring from the path's first position to its last, then the path backwards
abbrev pub first_part : List Position → Path → List Position
first_part ring path = stretch path.first path.last ring ++ reverse path.inner

-- the outer ring from the path's last position on to its first, then the path forwards
abbrev pub second_part : List Position → Path → List Position
second_part ring path = stretch path.last path.first ring ++ path.inner

-- the least of the hole's positions that are not of the part
abbrev pub least_off : List Position → List Position → Option Position
least_off part hole =
    reduce (λ q r. if position_lt r q then r else q) (filter (λ p. not (has part p)) hole)

-- a hole goes with the first part when all its positions are of that part,
-- or the least of the others is inside it
abbrev pub goes_first : List Position → List Position → Bool
goes_first part hole = is_first (least_off part hole)
  where
    is_first : Option Position → Bool
    is_first None = true
    is_first (Some w) = is_inside w part

-- -1 below 0, 0 at 0, and 1 above
abbrev pub sign : ℤ → ℤ
sign z = if int_lt z (pos 0) then negsuc 0 else (if int_lt (pos 0) z then pos 1 else pos 0)

-- both numbers are below 0, both are 0, or both are above
abbrev pub same_sign : ℤ → ℤ → Bool
same_sign y z = int_eq (sign y) (sign z)

-- ---- the two parts of a polygon (RFC 7946, 3.1.6)

-- both ends of the path are of the outer ring, and neither is of a hole
abbrev pub is_cut_by : Path → List (List Position) → Bool
is_cut_by path [] = false
is_cut_by path (outer ∷ holes) =
    (has outer path.first && has outer path.last)
    && not (list_any (λ h. has h path.first || has h path.last) holes)

-- the signed areas of the parts do not both have the sign of the ring's signed area
abbrev pub is_wrong_side : Path → List (List Position) → Bool
is_wrong_side path [] = false
is_wrong_side path (outer ∷ holes) =
    not (same_sign (signed_area (first_part outer path)) (signed_area outer)
    && same_sign (signed_area (second_part outer path)) (signed_area outer))

-- the first part with its holes, in their order
abbrev pub first_polygon : Path → List (List Position) → List (List Position)
first_polygon path [] = []
first_polygon path (outer ∷ holes) =
    canonical (first_part outer path) ∷ filter (goes_first (first_part outer path)) holes

-- the second part with the other holes, in their order
abbrev pub second_polygon : Path → List (List Position) → List (List Position)
second_polygon path [] = []
second_polygon path (outer ∷ holes) =
    canonical (second_part outer path)
    ∷ filter (λ h. not (goes_first (first_part outer path) h)) holes

-- ---- in the document

-- the list with the first element that passes the test changed
abbrev pub change_first : {A : Type 0} → (A → Bool) → (A → A) → List A → List A
change_first test g [] = []
change_first test g (x ∷ xs) = if test x then (g x ∷ xs) else (x ∷ change_first test g xs)

-- the first element that passes the test, or none
abbrev pub first_that : {A : Type 0} → (A → Bool) → List A → List A
first_that test [] = []
first_that test (x ∷ xs) = if test x then (x ∷ []) else first_that test xs

-- feature n becomes these features, and every other item stays
abbrev pub becomes : {R : Type 0}
    → ℕ → (FeatureOf R → List (FeatureOf R)) → ItemOf R → List (ItemOf R)
becomes n g (Leaf f) = if f.number == n then map Leaf (g f) else (Leaf f ∷ [])
becomes n g (Open h) = Open h ∷ []
becomes n g Close = Close ∷ []
becomes n g (Kept t) = Kept t ∷ []

-- the document with these features in the place of feature n
abbrev pub instead : {R : Type 0}
    → ℕ → (FeatureOf R → List (FeatureOf R)) → DocumentOf R → DocumentOf R
instead n g d = in_items (flat_map (becomes n g)) d

-- what stays with the feature: the first part in the place of the first polygon that is cut
abbrev pub stays : Path → Feature → Feature
stays path f = record f { polygons = change_first (is_cut_by path) (first_polygon path) f.polygons }

-- the second part as a new Polygon, with the properties and unknown members of f
abbrev pub parted : Path → ℕ → Text → Feature → List Feature
parted path number id f = map new (first_that (is_cut_by path) f.polygons)
  where
    new : List (List Position) → Feature
    new polygon = record {
      number = number;
      id = Some id;
      form = Polygon;
      properties = f.properties;
      members = f.members;
      polygons = second_polygon path polygon ∷ [];
    }

-- feature n cut by the path; the new feature stands directly after it
unfoldable pub cut : Document → ℕ → Text → Path → ℕ → Document
cut d n id path number = instead n (λ f. stays path f ∷ parted path number id f) d
