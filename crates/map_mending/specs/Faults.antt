-- Why a map is not mended.
use Rattle.std.specs.Prelude.{◌≡◌, ℕ, ◌<◌, List, length, map, slice_index_or}
use Rattle.grid_geometry.specs.Common.{Position, Segment}
use Rattle.ring_machine.specs.Common.{Document, size}
use Rattle.topo_reader.specs.Common.{Polygons}
use Rattle.segment_paths.specs.Faults as paths
use Rattle.segment_paths.specs.Common.{PathOfSegment}
use Rattle.segment_paths.specs.declared.fault.PathFault.{PathFault}
use Rattle.segment_paths.specs.declared.fault.PathFault.TheVariants as search
use Rattle.walk_mending.specs.Common.{laid, BoundWithoutRings}
use Rattle.map_mending.specs.Bounding.{AreBounding, MendedBy}
use Rattle.map_mending.specs.Mended.{Mended}
use Rattle.map_mending.specs.Told.{polygons_by_feature}
use Rattle.map_mending.specs.declared.fault.MendFault.{MendFault}
use Rattle.map_mending.specs.declared.fault.MendFault.TheVariants.{TooLarge, Unmended, Unparted, OutOfMemory}

-- there are paths of the segments that bound in the document which put in more positions than a map
-- may have, or which mend it to a document of more positions
pub data IsTooLarge (d : Document) : Type 0 where
  by_paths : {ss : List Segment} → AreBounding d ss → paths.HasMore ss 4000000 → IsTooLarge d
  mended : {paths : List PathOfSegment} {e : Document} → MendedBy d paths → Mended paths d e
      → 4000000 < size e → IsTooLarge d

-- there are paths of the segments that bound in the document under which these two still conflict
pub record IsUnmended (d : Document) (s t : Segment) : Type 0 where
  pub segments : List Segment
  pub bounding : AreBounding d segments
  pub unmended : paths.IsUnmended segments s t

-- x stands in the list at this place
abbrev pub IsAt : {X : Type 0} → List X → ℕ → X → Type 0
IsAt xs k x = (k < length xs) × (slice_index_or xs k x ≡ x)

-- of polygon k of these, led along the paths, not all walks are rings, and yet they bound something
pub record AreUnpartedIn (paths : List PathOfSegment) (polygons : Polygons) (k : ℕ) : Type 0 where
  pub walks : List (List Position)
  pub polygon : IsAt polygons k walks
  pub apart : BoundWithoutRings (map (laid paths) walks)

-- the same of polygon k of feature n
pub record AreUnparted (paths : List PathOfSegment) (features : List Polygons) (n k : ℕ) : Type 0 where
  pub polygons : Polygons
  pub feature : IsAt features n polygons
  pub unparted : AreUnpartedIn paths polygons k

-- the same of the document, led along paths that mend it
pub record IsUnparted (d : Document) (n k : ℕ) : Type 0 where
  pub paths : List PathOfSegment
  pub by : MendedBy d paths
  pub unparted : AreUnparted paths (polygons_by_feature d) n k

-- why a document is not mended; allocation failure says nothing
abbrev pub IsMendFault : Document → MendFault → Type 0
IsMendFault d TooLarge = IsTooLarge d
IsMendFault d (Unmended s t) = IsUnmended d s t
IsMendFault d (Unparted n k) = IsUnparted d n k
IsMendFault d OutOfMemory = Unit {0}

-- where there are no paths, the map is not mended
abbrev pub without_paths : PathFault → MendFault
without_paths search.TooMany = TooLarge
without_paths (search.Unmended s t) = Unmended s t
without_paths search.OutOfMemory = OutOfMemory

-- a polygon that is not taken apart, or allocation failure
abbrev pub OnlyUnparted : (ℕ → ℕ → Type 0) → MendFault → Type 0
OnlyUnparted Apart TooLarge = ⊥
OnlyUnparted Apart (Unmended s t) = ⊥
OnlyUnparted Apart (Unparted n k) = Apart n k
OnlyUnparted Apart OutOfMemory = Unit {0}
