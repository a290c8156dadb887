-- What tables hold by vertex and by segment, while features are reported.
use Rattle.std.specs.Prelude.{◌≡◌, ◌==◌, ◌-◌, ℕ, Bool, false, cond, List, [], ◌∷◌, ◌++◌, map, length}
use Rattle.std.specs.Prelude.{Option, Some, None, option_map, unwrap_or, slice_get, Vec, All}
use Rattle.std.specs.List.{list_any}
use Rattle.std.specs.BTreeMap.{BTreeMap, get}
use Rattle.std.specs.Ordering.{is_eq}
use Rattle.std.specs.declared.cmp.Ordering.{Ordering}
use Rattle.grid_geometry.specs.Common.{Position, position_cmp, Segment, segment_cmp}
use Rattle.segment_paths.specs.Common.{PathOfSegment}
use Rattle.walk_faults.specs.declared.findings.Crossing.{Crossing}
use Rattle.walk_faults.specs.declared.findings.Touch.{Touch}
use Rattle.place_text.specs.declared.owners.Owners.{Owners}
use Rattle.place_text.specs.declared.sides.Side.{Side}
use Rattle.place_text.specs.declared.tables.Tables.{Tables}
use Rattle.place_text.specs.Places.{list_at}
use Rattle.place_text.specs.Owners.{Telling, vertex_features, segment_features}

-- ---- one list of numbers

-- the number is the last one of the list
abbrev pub is_last : ℕ → Option ℕ → Bool
is_last n None = false
is_last n (Some m) = m == n

-- with the number at the end, where it is not the last one already
abbrev pub once : ℕ → List ℕ → List ℕ
once n ns = cond (is_last n (slice_get ns (length ns - 1))) ns (ns ++ n ∷ [])

-- ---- one table

abbrev pub numbers_held : {A : Type 0} → Vec ℕ A → List ℕ
numbers_held numbers = numbers.items

module _ {K : Type 0} (cmp : K → K → Ordering) where
  -- one of the keys is k
  abbrev pub is_among : List K → K → Bool
  is_among keys k = list_any (λ t. is_eq (cmp t k)) keys

  -- the number is reported at k, where k is one of the keys
  abbrev pub once_if : ℕ → List K → K → List ℕ → List ℕ
  once_if n keys k ns = cond (is_among keys k) (once n ns) ns

  -- the keys are asked for: nothing is reported of them yet
  abbrev pub asked_with : List K → K → Option (List ℕ) → Option (List ℕ)
  asked_with keys k before = cond (is_among keys k) (Some []) before

  -- what is reported at k, if it is asked for
  abbrev pub numbers_in : {A : Type 0} → BTreeMap K (Vec ℕ A) → K → Option (List ℕ)
  numbers_in table k = option_map numbers_held (get cmp table k)

  -- what is reported at k; nothing if it is not asked for
  abbrev pub numbers_at : {A : Type 0} → BTreeMap K (Vec ℕ A) → K → List ℕ
  numbers_at table k = unwrap_or (numbers_in table k) []

-- ---- both tables

-- a feature has these positions and these segments
pub record Tells {A : Type 0} (feature : ℕ) (ps : List Position) (ss : List Segment)
    (old new : Tables A) : Type 0 where
  pub vertices : (p : Position) → numbers_in position_cmp new.vertices p
      ≡ option_map (once_if position_cmp feature ps p) (numbers_in position_cmp old.vertices p)
  pub segments : (s : Segment) → numbers_in segment_cmp new.segments s
      ≡ option_map (once_if segment_cmp feature ss s) (numbers_in segment_cmp old.segments s)

-- nothing is reported of what is asked for
pub record AreEmpty {A : Type 0} (tables : Tables A) : Type 0 where
  pub vertices : (p : Position) → numbers_in position_cmp tables.vertices p
      ≡ option_map (λ ns. []) (numbers_in position_cmp tables.vertices p)
  pub segments : (s : Segment) → numbers_in segment_cmp tables.segments s
      ≡ option_map (λ ns. []) (numbers_in segment_cmp tables.segments s)

-- of all that is asked for these features are reported
pub record TellsAll {A : Type 0} (features : List (List (List (List Position))))
    (old new : Tables A) : Type 0 where
  pub vertices : (p : Position) → numbers_in position_cmp new.vertices p
      ≡ option_map (λ ns. vertex_features features p) (numbers_in position_cmp old.vertices p)
  pub segments : (s : Segment) → numbers_in segment_cmp new.segments s
      ≡ option_map (λ ns. segment_features features s) (numbers_in segment_cmp old.segments s)

-- ---- what is asked for

abbrev pub touch_pos : Touch → Position
touch_pos touch = touch.pos

abbrev pub side_segment : Side → Segment
side_segment side = side.segment

abbrev pub path_segment : PathOfSegment → Segment
path_segment path = path.0

-- the paths, if they are reported
abbrev pub told_paths : Option (List PathOfSegment) → List PathOfSegment
told_paths None = []
told_paths (Some paths) = paths

-- a table answers as the map does for both segments of a pair
abbrev pub AnswersBoth : {A : Type 0} → List (List (List (List Position)))
    → BTreeMap Segment (Vec ℕ A) → Crossing → Type 0
AnswersBoth features segments c =
    (numbers_at segment_cmp segments c.first ≡ segment_features features c.first)
    × (numbers_at segment_cmp segments c.second ≡ segment_features features c.second)

-- the tables answer as the map does
pub record Answers {A : Type 0} (features : List (List (List (List Position))))
    (touches : List Touch) (sides : List Side) (paths : List PathOfSegment) (tables : Tables A)
    : Type 0 where
  pub at_touches : All (λ t. numbers_at position_cmp tables.vertices t.pos
      ≡ vertex_features features t.pos) touches
  pub at_sides : All (λ s. numbers_at segment_cmp tables.segments s.segment
      ≡ segment_features features s.segment) sides
  pub at_paths : All (λ p. numbers_at segment_cmp tables.segments p.0
      ≡ segment_features features p.0) paths

-- what is told by tables, and by the list of pairs
abbrev pub told_by : {A : Type 0} → Owners A → Telling
told_by owners = record {
  vertex = numbers_at position_cmp owners.tables.vertices;
  segment = numbers_at segment_cmp owners.tables.segments;
  pair = list_at (map numbers_held owners.pairs.items);
}
