-- The segments of a tree, and the boxes that they lie in.
use Rattle.std.specs.Prelude.{◌≡◌, ◌≤◌, ◌+◌, true, cond, List, [], ◌++◌, Option, None, Some}
use Rattle.grid_geometry.specs.Common.{Segment, Box, box_of}
use Rattle.segment_sets.specs.Bounds.{is_within}
use Rattle.segment_sets.specs.Candidates.{segment_is, times_in}
use Rattle.segment_sets.specs.declared.tree.Tree.{Tree, Empty, Leaf, Fork'}
use Rattle.segment_sets.specs.declared.tree.Sides.{Sides}

-- one segment stands once more than before
abbrev pub Gains : Segment → List Segment → List Segment → Type 0
Gains s old new = (t : Segment) → times_in new t ≡ times_in old t + cond (segment_is t s) 1 0

-- each segment stands as often as before
abbrev pub IsSame : List Segment → List Segment → Type 0
IsSame old new = (t : Segment) → times_in new t ≡ times_in old t

-- the box of each segment of a list lies in a box
abbrev pub LieIn : Box → List Segment → Type 0
LieIn b items = (t : Segment) → 1 ≤ times_in items t → is_within (box_of t) b ≡ true

-- the same of a box that may be missing: then there is no segment
abbrev pub LiesIn : Option Box → List Segment → Type 0
LiesIn None items = (t : Segment) → times_in items t ≡ 0
LiesIn (Some b) items = LieIn b items

-- the segments of a tree, one leaf after another
abbrev pub listed : {A : _} → Tree A → List Segment
listed Empty = []
listed (Leaf b cell) = cell
listed (Fork' b p w n along aside) = listed along ++ listed aside

-- the segments of one side, and then those of the other
abbrev pub listed_from : {A : _} → Sides A → List Segment
listed_from n = listed n.along ++ listed n.aside

-- the segments of each leaf and of each fork lie in its box
abbrev pub Bounded : {A : _} → Tree A → Type 0
Bounded Empty = Unit {0}
Bounded (Leaf b cell) = LieIn b cell
Bounded (Fork' b p w n along aside) =
    LieIn b (listed along ++ listed aside) × (Bounded along × Bounded aside)
