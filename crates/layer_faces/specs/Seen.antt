-- What the code holds, seen as faces.
use Rattle.std.specs.Prelude.{ℕ, pos, ◌/◌, ◌%◌, ◌==◌, List, map, slice_index_or, if◌then◌else◌}
use Rattle.grid_geometry.specs.Common.{Segment, position}
use Rattle.layer_sides.specs.Common.{Side, Left, Right}
use Rattle.layer_sides.specs.Seen.{borders_seen}
use Rattle.layer_sides.specs.declared.border.Border.{Border}
use Rattle.layer_faces.specs.declared.face.Face.{Face}
use Rattle.layer_faces.specs.Faces.{FaceOf}

-- the segments of the borders
abbrev pub segments_seen : {A : Type 0} → List (Border A) → List Segment
segments_seen borders = map (λ b. b.segment) (borders_seen borders)

-- the segment of a side that there is not
abbrev pub nowhere : Segment
nowhere = record { lo = position (pos 0) (pos 0); hi = position (pos 0) (pos 0) }

-- side a of segments: 2i is the left side of segment i, and 2i + 1 its right side
abbrev pub side_at : List Segment → ℕ → Side
side_at ss a = (slice_index_or ss (a / 2) nowhere, (if a % 2 == 0 then Left else Right))

-- a face of the borders, with its sides by their numbers
abbrev pub face_seen : {A : Type 0} → List Segment → Face A → FaceOf
face_seen ss f = record {
  sides = map (side_at ss) f.sides.items;
  holders = f.holders.items;
  features = f.features.items;
  area = f.twice_area;
  border = f.border;
  kind = f.kind;
}

-- the faces in their order
abbrev pub faces_seen : {A : Type 0} → List Segment → List (Face A) → List FaceOf
faces_seen ss faces = map (face_seen ss) faces
