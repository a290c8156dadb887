-- A feature that a path may cut in two, and what the code decides of it.
use Rattle.std.specs.Prelude.{ℕ, ◌≡◌, ◌<◌, ◌+◌, ◌*◌, ◌&&◌, Bool, true, false, List, [], ◌∷◌}
use Rattle.std.specs.Prelude.{nat_lt, nat_le, length, take, slice_index_or, slice_set}
use Rattle.std.specs.List.{list_any}
use Rattle.grid_geometry.specs.Common.{Position}
use Rattle.ring_machine.specs.Common.{is_distinct, Document, has_feature, is_vertex, size, Proper, WellFormed, Path}
use Rattle.ring_machine.specs.Common.{is_cut_by, first_that, feature_at, is_layer, positions_of, is_path_segment}
use Rattle.ring_parts.specs.Common.{rings_seen, polygons_seen}
use Rattle.segment_index.specs.Common.{SegmentSet}
use Rattle.feature_exchange.specs.Common.{IsIndexed}
use Rattle.arc_store.specs.declared.raw_split.FirstCut.{FirstCut}

-- the conditions of a split that come before conflicts, for a document of a map
pub record IsCuttable (d : Document) (n : ℕ) (path : Path) : Type 0 where
  pub formed : WellFormed d
  pub proper : Proper d
  pub there : has_feature d n ≡ true
  pub inside : is_layer d n ≡ false
  pub cut : list_any (is_cut_by path) (feature_at d n).polygons ≡ true
  pub different : is_distinct (positions_of path) ≡ true
  pub free : list_any (is_vertex d) path.inner ≡ false
  pub new : is_path_segment d path ≡ false

-- p is the first polygon that the path cuts, and stands at this place
pub record IsFirstCut (polygons : List (List (List Position))) (path : Path) (place : ℕ)
    (p : List (List Position)) : Type 0 where
  pub within : place < length polygons
  pub at : p ≡ slice_index_or polygons place []
  pub first : first_that (is_cut_by path) polygons ≡ p ∷ []
  pub none_before : list_any (is_cut_by path) (take place polygons) ≡ false

-- what was found is that polygon and its place, and the polygons without its rings
pub record IsFound {A : Type 0} (d : Document) (n : ℕ) (path : Path) (found : FirstCut A) : Type 0 where
  pub first : IsFirstCut (feature_at d n).polygons path found.place (rings_seen found.rings.items)
  pub others : polygons_seen found.others.items ≡ slice_set (feature_at d n).polygons found.place []

-- a number is left for a feature, and room for a path that has so many inner positions, in a map of
-- so many positions
abbrev pub has_room : ℕ → ℕ → ℕ → Bool
has_room next positions inner =
    nat_lt next 200000 && nat_le (positions + 2 + 2 * inner) 4000000

-- the path may cut feature n, in this polygon first; an index holds the segments of the document; and
-- the limits leave room, or do not
pub record IsTested (d : Document) (held : SegmentSet) (next n : ℕ) (path : Path)
    (polygon : List (List Position)) (room : Bool) : Type 0 where
  pub cuttable : IsCuttable d n path
  pub indexed : IsIndexed d held
  pub first : first_that (is_cut_by path) (feature_at d n).polygons ≡ polygon ∷ []
  pub limits : room ≡ has_room next (size d) (length path.inner)
