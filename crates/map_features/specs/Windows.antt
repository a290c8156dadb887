-- The part of the grid that is drawn.
use Rattle.std.specs.Prelude.{◌≡◌, ◌≤ℤ◌, ◌+ℤ◌, ◌-ℤ◌, ◌/◌, ℤ, pos, unsigned_abs, List, Option, Some, None, Vec}
use Rattle.std.specs.List.{All}
use Rattle.grid_geometry.specs.Common.{Position}
use Rattle.topo_reader.specs.Common.{positions_of}
use Rattle.map_features.specs.declared.bounds.Bounds.{Bounds}
use Rattle.map_features.specs.declared.window.Window.{Window}

-- the position is within the bounds
pub record Includes (b : Bounds) (p : Position) : Type 0 where
  pub left : b.x0 ≤ℤ p.x
  pub right : p.x ≤ℤ b.x1
  pub lower : b.y0 ≤ℤ p.y
  pub upper : p.y ≤ℤ b.y1

-- the position is within the bounds, where there are any
abbrev pub IsWithin : Option Bounds → Position → Type 0
IsWithin None p = ⊥
IsWithin (Some b) p = Includes b p

-- each position of the ring is, of the polygon, and of the polygons
abbrev pub RingIn : {A : Type 0} → Option Bounds → Vec Position A → Type 0
RingIn bounds ring = All (IsWithin bounds) (positions_of ring)

abbrev pub RingsIn : {A : Type 0} → Option Bounds → Vec (Vec Position A) A → Type 0
RingsIn bounds polygon = All (RingIn bounds) polygon.items

abbrev pub AreWithin : {A : Type 0} → Option Bounds → List (Vec (Vec Position A) A) → Type 0
AreWithin bounds polygons = All (RingsIn bounds) polygons

-- the position is in the window
pub record IsInWindow (w : Window) (p : Position) : Type 0 where
  pub left : w.x ≤ℤ p.x
  pub right : p.x ≤ℤ (w.x +ℤ w.width)
  pub lower : w.y ≤ℤ p.y
  pub upper : p.y ≤ℤ (w.y +ℤ w.height)

-- each position of the ring is, of the polygon, and of the polygons
abbrev pub IsRingShown : {A : Type 0} → Window → Vec Position A → Type 0
IsRingShown w ring = All (IsInWindow w) (positions_of ring)

abbrev pub AreRingsShown : {A : Type 0} → Window → Vec (Vec Position A) A → Type 0
AreRingsShown w polygon = All (IsRingShown w) polygon.items

abbrev pub ArePolygonsShown : {A : Type 0} → Window → List (Vec (Vec Position A) A) → Type 0
ArePolygonsShown w polygons = All (AreRingsShown w) polygons

-- the window has all that the bounds have
pub record CoversBounds (w : Window) (b : Bounds) : Type 0 where
  pub left : w.x ≤ℤ b.x0
  pub right : b.x1 ≤ℤ (w.x +ℤ w.width)
  pub lower : w.y ≤ℤ b.y0
  pub upper : b.y1 ≤ℤ (w.y +ℤ w.height)

-- half of a positive width, rounded down
abbrev pub half_of : ℤ → ℤ
half_of width = pos (unsigned_abs width / 2)

-- the square of this width about the position: it reaches half of the width to the left and down
pub record IsSquareAbout (p : Position) (width : ℤ) (w : Window) : Type 0 where
  pub left : w.x ≡ p.x -ℤ half_of width
  pub lower : w.y ≡ p.y -ℤ half_of width
  pub across : w.width ≡ width
  pub upward : w.height ≡ width
