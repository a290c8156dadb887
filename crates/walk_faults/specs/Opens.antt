-- When a map of walks opens: its walks are linear rings, and no two of its segments conflict.
use Rattle.std.specs.Prelude.{◌≡◌, Bool, ◌&&◌, nat_le, List, [], length, None, IsTrue}
use Rattle.std.specs.List.{flat_map, list_all}
use Rattle.grid_geometry.specs.Common.{Position}
use Rattle.ring_machine.specs.Common.{least_conflict, is_distinct, segments}
use Rattle.walk_faults.specs.declared.findings.Findings.{Findings}

-- the walk is a linear ring, wherever it begins: at least three positions, no two equal
-- (RFC 7946, 3.1.6, without the repeated last position)
abbrev pub is_closed_ring : List Position → Bool
is_closed_ring walk = nat_le 3 (length walk) && is_distinct walk

-- the walks of a map, which are given by feature, polygon and ring, in order
abbrev pub all_walks : List (List (List (List Position))) → List (List Position)
all_walks features = flat_map (λ polygons. flat_map (λ rings. rings) polygons) features

-- every walk is a linear ring, and no two segments conflict
pub record Opens (features : List (List (List (List Position)))) : Type 0 where
  pub are_rings : IsTrue (list_all is_closed_ring (all_walks features))
  pub apart : least_conflict (flat_map segments (all_walks features)) ≡ None

-- nothing is found
pub record IsNothing {A : Type 0} (findings : Findings A) : Type 0 where
  pub short : findings.short.items ≡ []
  pub repeats : findings.repeats.items ≡ []
  pub touches : findings.touches.items ≡ []
  pub crossings : findings.crossings.items ≡ []
