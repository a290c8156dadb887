-- The conditions of each command, in the order in which they are tested.
use Rattle.std.specs.Prelude.{ℕ, Bool, false, not, ◌&&◌, ◌||◌, ◌==◌, nat_le, nat_lt, if◌then◌else◌}
use Rattle.std.specs.Prelude.{List, [], ◌∷◌, ◌++◌, length, Option, None, Some}
use Rattle.std.specs.List.{list_any, list_all}
use Rattle.grid_geometry.specs.Common.{Position, Segment, segment, links, edges}
use Rattle.ring_machine.specs.Ring.{has, is_distinct, segment_of}
use Rattle.ring_machine.specs.Document.{DocumentOf, Document, ItemOf, Leaf, Feature, Text, Null}
use Rattle.ring_machine.specs.Parts.{rings, size, is_vertex, is_segment, feature, has_feature}
use Rattle.ring_machine.specs.Vertices.{put, ins, del, around, is_junction}
use Rattle.ring_machine.specs.Planar.{first_pair}
use Rattle.ring_machine.specs.Sweep.{move_sweeps, insert_sweeps, remove_sweeps}
use Rattle.ring_machine.specs.Cut.{Path, cut, is_cut_by, is_wrong_side, first_that}
use Rattle.ring_machine.specs.Join.{is_common, runs, common_else, same_side}
use Rattle.ring_machine.specs.Command.{Refusal, NoFeature, NoVertex, NoSegment, Occupied, Junction}
use Rattle.ring_machine.specs.Command.{RingShort, SegmentExists, NoCollection, NotOnOuterRing}
use Rattle.ring_machine.specs.Command.{RepeatedPoint, WrongSide, TooLarge, SameFeature}
use Rattle.ring_machine.specs.Command.{NotOnePolygon, NotNeighbours, SameSide, Sweeps, Conflict}
use Rattle.ring_machine.specs.Command.{Runs, CommonElse}

-- the refusal, where the condition fails
infix 70 ◌unless◌
abbrev pub ◌unless◌ : Refusal → Bool → Option Refusal
r unless b = if b then None else Some r

-- the first refusal that is there
abbrev pub first_of : List (Option Refusal) → Option Refusal
first_of [] = None
first_of (Some r ∷ rs) = Some r
first_of (None ∷ rs) = first_of rs

-- the conflict of a pair of segments
abbrev pub conflict_of : Option (Segment × Segment) → Option Refusal
conflict_of None = None
conflict_of (Some pair) = Some (Conflict pair.0 pair.1)

-- the conflict of the first pair of the document, where there is one
abbrev pub planar : Document → Option Refusal
planar d = conflict_of (first_pair d)

-- the document has at most 4,000,000 positions, each ring counted for itself
abbrev pub is_small : Document → Bool
is_small d = nat_le (size d) 4000000

-- ---- edits of a vertex

-- p is a vertex; q is none; q in the place of p gives no conflict, and sweeps over nothing
unfoldable pub move_refusals : Document → Position → Position → List (Option Refusal)
move_refusals d p q =
    NoVertex unless is_vertex d p ∷
    Occupied unless not (is_vertex d q) ∷
    planar (put d p q) ∷
    Sweeps unless not (move_sweeps d p q) ∷ []

-- a and b are the ends of a segment; q is no vertex; the result is small enough; q between them
-- gives no conflict, and sweeps over nothing
unfoldable pub insert_refusals : Document → Position → Position → Position → List (Option Refusal)
insert_refusals d a b q =
    NoSegment unless is_segment d (segment a b) ∷
    Occupied unless not (is_vertex d q) ∷
    TooLarge unless is_small (ins d a b q) ∷
    planar (ins d a b q) ∷
    Sweeps unless not (insert_sweeps d a b q) ∷ []

-- each ring with p has more than three positions
abbrev pub are_long : Document → Position → Bool
are_long d p = list_all (λ ring. not (has ring p) || nat_lt 3 (length ring)) (rings d)

-- the neighbours of p are the ends of a segment of the map already
abbrev pub is_bridged : Document → Position → Bool
is_bridged d p = list_any (is_segment d) (around d p)

-- p is a vertex and no junction; its rings are long enough; its neighbours are not neighbours yet;
-- leaving it out gives no conflict, and sweeps over nothing
unfoldable pub remove_refusals : Document → Position → List (Option Refusal)
remove_refusals d p =
    NoVertex unless is_vertex d p ∷
    Junction unless not (is_junction d p) ∷
    RingShort unless are_long d p ∷
    SegmentExists unless not (is_bridged d p) ∷
    planar (del d p) ∷
    Sweeps unless not (remove_sweeps d p) ∷ []

-- ---- edits of features

-- what stands for the feature of a number that no feature has
abbrev pub no_feature : Feature
no_feature =
    record { number = 0; id = None; form = Null; properties = None; members = []; polygons = [] }

-- the value that is there, or else a
abbrev pub or_else : {A : Type 0} → A → Option A → A
or_else a None = a
or_else a (Some b) = b

-- the feature with this number, which is there
abbrev pub feature_at : Document → ℕ → Feature
feature_at d n = or_else no_feature (feature d n)

-- feature n is itself the geometry of a layer (TopoJSON 1.0, 2.1.5)
abbrev pub is_layer : {R : Type 0} → DocumentOf R → ℕ → Bool
is_layer {R} d n = list_any (λ l. is_alone l.items) d.layers
  where
    is_alone : List (ItemOf R) → Bool
    is_alone (Leaf f ∷ []) = f.number == n
    is_alone _ = false

-- the positions of a path, its ends included
abbrev pub positions_of : Path → List Position
positions_of path = path.first ∷ path.inner ++ path.last ∷ []

-- a position of the path and the next one are the ends of a segment of the map
abbrev pub is_path_segment : Document → Path → Bool
is_path_segment d path = list_any (λ e. is_segment d (segment_of e)) (links (positions_of path))

-- feature n is there, in a collection, and has a polygon that the path cuts; the path has no
-- position twice, its inner ones are no vertices, and none of its segments is one of the map;
-- the parts give no conflict and lie on their sides; number and size are within the limits
unfoldable pub split_refusals : Document → ℕ → ℕ → Text → Path → List (Option Refusal)
split_refusals d next n id path =
    let polygons = (feature_at d n).polygons in
    NoFeature unless has_feature d n ∷
    NoCollection unless not (is_layer d n) ∷
    NotOnOuterRing unless list_any (is_cut_by path) polygons ∷
    RepeatedPoint unless is_distinct (positions_of path) ∷
    Occupied unless not (list_any (is_vertex d) path.inner) ∷
    SegmentExists unless not (is_path_segment d path) ∷
    planar (cut d n id path next) ∷
    WrongSide unless not (list_any (is_wrong_side path) (first_that (is_cut_by path) polygons)) ∷
    TooLarge unless (nat_lt next 200000 && is_small (cut d n id path next)) ∷ []

-- the outer ring of a feature's only polygon
abbrev pub outer_of : Feature → Option (List Position)
outer_of f = only f.polygons
  where
    only : List (List (List Position)) → Option (List Position)
    only ((outer ∷ holes) ∷ []) = Some outer
    only _ = None

-- both features have one outer ring; the rings have a common segment, one run of them, no other
-- common position, and their areas do not lie on the same side of the run
abbrev pub ring_refusals : Option (List Position) → Option (List Position) → List (Option Refusal)
ring_refusals None _ = Some NotOnePolygon ∷ []
ring_refusals (Some r) None = Some NotOnePolygon ∷ []
ring_refusals (Some r) (Some s) =
    let count = runs (is_common s) (edges r) in
    NotNeighbours unless list_any (is_common s) (edges r) ∷
    Runs count unless nat_le count 1 ∷
    elsewhere (common_else r s) ∷
    SameSide unless not (same_side r s) ∷ []
  where
    elsewhere : Option Position → Option Refusal
    elsewhere None = None
    elsewhere (Some p) = Some (CommonElse p)

-- both features are there, and are two; then the conditions on their outer rings
unfoldable pub merge_refusals : Document → ℕ → ℕ → List (Option Refusal)
merge_refusals d n m =
    NoFeature unless (has_feature d n && has_feature d m) ∷
    SameFeature unless not (n == m) ∷
    ring_refusals (outer_of (feature_at d n)) (outer_of (feature_at d m))

-- the feature is there: all that some commands ask for
abbrev pub feature_refusals : Document → ℕ → List (Option Refusal)
feature_refusals d n = NoFeature unless has_feature d n ∷ []
