-- Which documents are proper, and the first pair of segments in conflict.
use Rattle.std.specs.Prelude.{Bool, ◌&&◌, ◌||◌, List, Option, None, IsTrue, ◌≡◌, if◌then◌else◌}
use Rattle.std.specs.Prelude.{map}
use Rattle.std.specs.List.{list_all, flat_map, filter, reduce}
use Rattle.grid_geometry.specs.Common.{Segment, segment_eq, segment_lt, conflict}
use Rattle.ring_machine.specs.Ring.{is_ring}
use Rattle.ring_machine.specs.Document.{Document}
use Rattle.ring_machine.specs.Parts.{rings, all_segments}

-- the order of pairs: by the first segment, then by the second
abbrev pub pair_lt : Segment × Segment → Segment × Segment → Bool
pair_lt u v = segment_lt u.0 v.0 || (segment_eq u.0 v.0 && segment_lt u.1 v.1)

-- the pairs of segments in conflict, the lesser segment first
abbrev pub conflicts : List Segment → List (Segment × Segment)
conflicts ss =
    flat_map (λ s. map (λ t. (s, t)) (filter (λ t. segment_lt s t && conflict s t) ss)) ss

-- the least pair of these segments in conflict
abbrev pub least_conflict : List Segment → Option (Segment × Segment)
least_conflict ss = reduce (λ u v. if pair_lt v u then v else u) (conflicts ss)

-- the least pair of segments of the document in conflict
unfoldable pub first_pair : Document → Option (Segment × Segment)
first_pair d = least_conflict (all_segments d)

-- every list of positions is a linear ring (RFC 7946, 3.1.6), and no two segments conflict
pub record Proper (d : Document) : Type 0 where
  pub are_rings : IsTrue (list_all is_ring (rings d))
  pub apart : first_pair d ≡ None
