-- What stands around a vertex, and the rings of a segment.
use Rattle.std.specs.Prelude.{ℕ, ◌≡◌, ◌≤◌, true, false, List, length, Contains, IsTrue}
use Rattle.std.specs.Prelude.{Option, None, Some}
use Rattle.std.specs.List.{filter, list_any}
use Rattle.grid_geometry.specs.Common.{Position, position_lt, Segment, segment, segment_eq}
use Rattle.ring_machine.specs.Common.{has, segments, Document, rings, is_vertex, around, is_junction}
use Rattle.arc_store.specs.declared.spot.Spot.{Spot}
use Rattle.arc_store.specs.declared.spot.Spot.TheVariants.{Junction, Between}

-- the rings that have the segment
abbrev pub users : Document → Segment → List (List Position)
users d s = filter (λ ring. list_any (segment_eq s) (segments ring)) (rings d)

-- the shortest ring that has p has n positions
pub record IsShortest (d : Document) (p : Position) (n : ℕ) : Type 0 where
  pub ring : List Position
  pub there : Contains (rings d) ring
  pub through : IsTrue (has ring p)
  pub long : n ≡ length ring
  pub least : (r : List Position) → Contains (rings d) r → IsTrue (has r p) → n ≤ length r

-- p stands between a and b, the lesser one, wherever it stands
pub record IsBetween (d : Document) (p a b : Position) : Type 0 where
  pub vertex : is_vertex d p ≡ true
  pub inner : is_junction d p ≡ false
  pub order : position_lt a b ≡ true
  pub each : (s : Segment) → Contains (around d p) s → s ≡ segment a b

-- what stands around p
abbrev pub IsSpot : Document → Position → Option Spot → Type 0
IsSpot d p None = is_vertex d p ≡ false
IsSpot d p (Some Junction) = (is_vertex d p ≡ true) × (is_junction d p ≡ true)
IsSpot d p (Some (Between a b n)) = IsBetween d p a b × IsShortest d p n
