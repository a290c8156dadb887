-- What an edit of one vertex is asked of, and what it does to the tables.
use Rattle.std.specs.Prelude.{◌≡◌, ◌≢◌, ◌≤◌, ◌&&◌, ◌||◌, not, true, false, [], ◌∷◌}
use Rattle.std.specs.Prelude.{None}
use Rattle.grid_geometry.specs.Common.{Position, Segment, segment, segment_eq, is_end}
use Rattle.ring_machine.specs.Common.{Document, is_segment, is_vertex, size, first_pair, are_long, is_bridged, put, ins}
use Rattle.ring_machine.specs.Common.{del, is_junction, holds_other, remove_sweeps}
use Rattle.segment_index.specs.Common.{SegmentSet}
use Rattle.feature_exchange.specs.Common.{IsIndexed}

-- ---- when the tables may change, whatever the edit sweeps over

-- p is a vertex and q is none; with p at q no two segments conflict
pub record IsMovable (d : Document) (p q : Position) : Type 0 where
  pub vertex : is_vertex d p ≡ true
  pub free : is_vertex d q ≡ false
  pub apart : first_pair (put d p q) ≡ None

-- a and b are the ends of a segment and q is no vertex; with q between them the size stays within
-- the limit, and no two segments conflict
pub record IsPlaceable (d : Document) (a b q : Position) : Type 0 where
  pub different : a ≢ b
  pub border : is_segment d (segment a b) ≡ true
  pub free : is_vertex d q ≡ false
  pub small : size (ins d a b q) ≤ 4000000
  pub apart : first_pair (ins d a b q) ≡ None

-- p is a vertex and no junction, its rings are long enough, and its neighbours are not joined;
-- without p no two segments conflict
pub record IsLeavable (d : Document) (p : Position) : Type 0 where
  pub vertex : is_vertex d p ≡ true
  pub inner : is_junction d p ≡ false
  pub long : are_long d p ≡ true
  pub unjoined : is_bridged d p ≡ false
  pub apart : first_pair (del d p) ≡ None

-- ---- what the tests ask of the index

-- q, which is no vertex, may come between the ends of a segment: an index holds the segments, and
-- the size stays within the limit
pub record IsInsertable (d : Document) (held : SegmentSet) (a b q : Position) : Type 0 where
  pub indexed : IsIndexed d held
  pub border : is_segment d (segment a b) ≡ true
  pub free : is_vertex d q ≡ false
  pub small : size (ins d a b q) ≤ 4000000

-- p, no junction and in rings that are long enough, may go from between the ends of t, which the
-- map has not: without it the segments at p go and t comes
pub record IsRemovable (d : Document) (held : SegmentSet) (p : Position) (t : Segment) : Type 0 where
  pub indexed : IsIndexed d held
  pub vertex : is_vertex d p ≡ true
  pub inner : is_junction d p ≡ false
  pub long : are_long d p ≡ true
  pub unjoined : is_bridged d p ≡ false
  pub without : (s : Segment)
      → is_segment (del d p) s ≡ ((is_segment d s && not (is_end p s)) || segment_eq s t)
  pub sweeps : remove_sweeps d p ≡ holds_other d (t.lo ∷ p ∷ t.hi ∷ []) t.lo p t.hi
