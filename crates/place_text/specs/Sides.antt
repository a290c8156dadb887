-- The segments that findings speak of.
use Rattle.std.specs.Prelude.{ℕ, ◌-ℤ◌, Bool, true, false, List, [], ◌∷◌, ◌++◌}
use Rattle.grid_geometry.specs.Common.{Position, position, Segment}
use Rattle.segment_paths.specs.Common.{PathOfSegment}
use Rattle.walk_faults.specs.declared.findings.Crossing.{Crossing}
use Rattle.walk_faults.specs.declared.findings.Findings.{Findings}
use Rattle.walk_faults.specs.declared.findings.Touch.{Touch}
use Rattle.walk_faults.specs.Common.{flat_map_at}
use Rattle.place_text.specs.declared.places.Kind.{Kind}
use Rattle.place_text.specs.declared.places.Kind.TheVariants.{On, Cross}
use Rattle.place_text.specs.declared.sides.Side.{Side}

-- a segment of the finding of this kind with this number
abbrev pub side_at : Kind → ℕ → Segment → Side
side_at kind n s = record { segment = s; kind = kind; number = n }

-- the segment that a vertex lies on
abbrev pub touch_side : ℕ → Touch → List Side
touch_side n t = side_at On n t.segment ∷ []

-- both segments of a pair that crosses, the lesser first
abbrev pub crossing_sides : ℕ → Crossing → List Side
crossing_sides n c = side_at Cross n c.first ∷ side_at Cross n c.second ∷ []

-- the segments in the order of a report
abbrev pub sides_of : {A : Type 0} → Findings A → List Side
sides_of found =
    flat_map_at touch_side 0 found.touches.items ++ flat_map_at crossing_sides 0 found.crossings.items

-- the positions of a segment, as an arc has them
abbrev pub segment_ends : Segment → List Position
segment_ends s = s.lo ∷ s.hi ∷ []

abbrev pub side_ends : Side → List Position
side_ends side = segment_ends side.segment

-- the positions of the path of a segment, from the lesser end to the greater
abbrev pub path_positions : PathOfSegment → List Position
path_positions p = p.0.lo ∷ p.1 ++ p.0.hi ∷ []

-- the pair that stands for a position after another in an arc: with a transform the difference
abbrev pub pair_behind : Bool → Position → Position → Position
pair_behind true before p = position (p.x -ℤ before.x) (p.y -ℤ before.y)
pair_behind false before p = p
