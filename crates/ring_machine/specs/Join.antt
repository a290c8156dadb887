-- A feature taken out, and two features joined along their common run.
use Rattle.std.specs.Prelude.{ℕ, pos, int_lt, Bool, false, not, ◌&&◌, ◌||◌, ◌==◌, if◌then◌else◌}
use Rattle.std.specs.Prelude.{List, [], ◌∷◌, ◌++◌, map, reverse, take, drop, Option, None}
use Rattle.std.specs.List.{list_any, list_all, filter, zip, count_by, reduce, prefix_len}
use Rattle.grid_geometry.specs.Common.{Position, position_lt, segment_eq, is_end, Edge, edges, signed_area}
use Rattle.ring_machine.specs.Ring.{edge_eq, segment_of, segments, has, canonical}
use Rattle.ring_machine.specs.Document.{DocumentOf, Document, ItemOf, Open, Close, Leaf, Kept}
use Rattle.ring_machine.specs.Document.{Feature}
use Rattle.ring_machine.specs.Parts.{in_items}
use Rattle.ring_machine.specs.Cut.{instead}

-- ---- taken out

-- the item is feature n
abbrev pub is_leaf : {R : Type 0} → ℕ → ItemOf R → Bool
is_leaf n (Leaf f) = f.number == n
is_leaf n (Open h) = false
is_leaf n Close = false
is_leaf n (Kept t) = false

-- a geometry collection of no geometries, without other members (TopoJSON 1.0, 2.2.7)
abbrev pub empty_collection : {R : Type 0} → List (ItemOf R)
empty_collection = Open (record { id = None; properties = None; members = [] }) ∷ Close ∷ []

-- feature n leaves its collection; one that is the layer's own geometry becomes an empty collection
unfoldable pub take_out : {R : Type 0} → DocumentOf R → ℕ → DocumentOf R
take_out {R} d n = in_items out d
  where
    out : List (ItemOf R) → List (ItemOf R)
    out (Leaf f ∷ []) = if f.number == n then empty_collection else (Leaf f ∷ [])
    out items = filter (λ i. not (is_leaf n i)) items

-- ---- the common run

-- the edge's segment is one of the other ring
abbrev pub is_common : List Position → Edge → Bool
is_common other e = list_any (segment_eq (segment_of e)) (segments other)

-- both rings pass a common segment in the same direction
abbrev pub passed_alike : List Position → List Position → Bool
passed_alike r s = list_any (λ e. list_any (edge_eq e) (edges s)) (edges r)

-- the ring in the direction in which its signed area is at least 0
abbrev pub positive : List Position → List Position
positive ring = if int_lt (signed_area ring) (pos 0) then reverse ring else ring

-- each segment of one ring is one of the other
abbrev pub same_segments : List Position → List Position → Bool
same_segments r s = list_all (is_common s) (edges r) && list_all (is_common r) (edges s)

-- both areas lie on the same side of the run
abbrev pub same_side : List Position → List Position → Bool
same_side r s = same_segments r s || passed_alike (positive r) (positive s)

-- each edge of a ring with the next one, the last with the first
abbrev pub neighbour_edges : List Edge → List (Edge × Edge)
neighbour_edges [] = []
neighbour_edges (e ∷ es) = zip (e ∷ es) (es ++ e ∷ [])

-- how many runs the edges that pass the test form in the ring: all edges are one run,
-- else there is one for each edge that passes after one that does not
abbrev pub runs : (Edge → Bool) → List Edge → ℕ
runs test es =
    if list_all test es
    then 1
    else count_by (λ u. not (test u.0) && test u.1) (neighbour_edges es)

-- the least position of both rings that is no end of a common segment
abbrev pub common_else : List Position → List Position → Option Position
common_else r s =
    reduce (λ q p. if position_lt p q then p else q) (filter (λ p. has s p && not (on_run p)) r)
  where
    on_run : Position → Bool
    on_run p = list_any (λ e. is_common s e && is_end p (segment_of e)) (edges r)

-- ---- joined

-- the edges of a ring off its only run, in the ring's direction from the end of the run on:
-- the ring's edges are begun at the first one that is common
abbrev pub off_run : (Edge → Bool) → List Edge → List Edge
off_run common es =
    let off : Edge → Bool = λ e. not (common e) in
    filter off (drop (prefix_len off es) es ++ take (prefix_len off es) es)

-- the rest of r, then the rest of s, which is turned where both pass the run in the same direction
abbrev pub joined : List Position → List Position → List Position
joined r s =
    let other = if passed_alike r s then reverse s else s in
    let rests = off_run (is_common s) (edges r) ++ off_run (is_common r) (edges other) in
    canonical (map (λ e. e.0) rests)

-- one polygon of two; the holes of the first come before those of the second
abbrev pub joined_polygons : List (List (List Position)) → List (List (List Position))
    → List (List (List Position))
joined_polygons ((r ∷ holes) ∷ []) ((s ∷ more) ∷ []) = (joined r s ∷ (holes ++ more)) ∷ []
joined_polygons ps _ = ps

-- f with its polygon joined with that of g
abbrev pub joined_feature : Feature → Feature → List Feature
joined_feature g f = record f { polygons = joined_polygons f.polygons g.polygons } ∷ []

-- feature n joined with the feature g, which is taken out
unfoldable pub join : Document → ℕ → Feature → Document
join d n g = take_out (instead n (joined_feature g) d) g.number
