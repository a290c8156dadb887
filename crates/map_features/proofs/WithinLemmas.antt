-- What is within bounds stays within wider ones.
use Rattle.kit_words.proofs.Common.{ℕ, ◌≡◌, ◌+◌, ◌<◌, ◌≤ℤ◌, ◌+ℤ◌, List, length, take, get_or, subst, arith, Option, Some, Vec}
use Rattle.kit_words.proofs.Common.{All, ints, All-more}
use Rattle.grid_geometry.specs.Common.{Position}
use Rattle.map_features.specs.declared.bounds.Bounds.{Bounds}
use Rattle.map_features.specs.declared.shapes.Shape.{Shape}
use Rattle.map_features.specs.declared.window.Window.{Window}
use Rattle.map_features.specs.Common.{ArePolygonsShown, AreRingsShown, IsRingShown, CoversBounds, ShapeIn, Includes, IsInWindow, IsWithin, RingIn, RingsIn, AreWithin}

pub all_so : {X : Type 0} (P Q : X → Type 0) → ((x : X) → P x → Q x) → (xs : List X) → All P xs → All Q xs
all_so P Q so xs h = λ k d l. so (get_or xs k d) (h k d l)

-- one element more, where what held of the others still does
pub all_more : {X : Type 0} (P Q : X → Type 0) → ((x : X) → P x → Q x) → (xs : List X) (i : ℕ) (x : X) → i < length xs
    → x ≡ get_or xs i x → All P (take i xs) → Q x → All Q (take (i + 1) xs)
all_more P Q so xs i x l e h q = All-more Q xs i x l (all_so P Q so (take i xs) h) (subst Q e q)

-- bounds that have what others have
abbrev pub Wider : Option Bounds → Option Bounds → Type 0
Wider old new = (p : Position) → IsWithin old p → IsWithin new p

pub ring_stays : {A : Type 0} (old new : Option Bounds) → Wider old new → (r : Vec Position A) → RingIn old r → RingIn new r
ring_stays old new w r h = all_so (IsWithin old) (IsWithin new) w r.items h

pub rings_stay : {A : Type 0} (old new : Option Bounds) → Wider old new → (p : Vec (Vec Position A) A) → RingsIn old p → RingsIn new p
rings_stay old new w p h = all_so (RingIn old) (RingIn new) (ring_stays old new w) p.items h

pub polygons_stay : {A : Type 0} (old new : Option Bounds) → Wider old new → (ps : List (Vec (Vec Position A) A)) → AreWithin old ps → AreWithin new ps
polygons_stay old new w ps h = all_so (RingsIn old) (RingsIn new) (rings_stay old new w) ps h

pub shape_stays : {A : Type 0} (old new : Option Bounds) → Wider old new → (s : Shape A) → ShapeIn old s → ShapeIn new s
shape_stays old new w s h = polygons_stay old new w s.polygons.now h

-- bounds that are no narrower have what others have
pub included_in : (b w : Bounds) (p : Position) → (w.x0 ≤ℤ b.x0) × (w.y0 ≤ℤ b.y0) → (b.x1 ≤ℤ w.x1) × (b.y1 ≤ℤ w.y1) → Includes b p → Includes w p
included_in b w p least most i = record {
  left = omega (arith, ints, least.0, i.left);
  right = omega (arith, ints, most.0, i.right);
  lower = omega (arith, ints, least.1, i.lower);
  upper = omega (arith, ints, most.1, i.upper);
}

-- a window about bounds shows what they have
pub shown_around : (b : Bounds) (w : Window) (p : Position) → CoversBounds w b → Includes b p → IsInWindow w p
shown_around b w p h i = record {
  left = omega (arith, ints, h.left, i.left);
  right = omega (arith, ints, h.right, i.right);
  lower = omega (arith, ints, h.lower, i.lower);
  upper = omega (arith, ints, h.upper, i.upper);
}

-- and so it shows all polygons within them
pub ring_shown : {A : Type 0} (b : Bounds) (w : Window) → CoversBounds w b → (r : Vec Position A) → RingIn (Some b) r → IsRingShown w r
ring_shown b w h r i = all_so (IsWithin (Some b)) (IsInWindow w) (λ p j. shown_around b w p h j) r.items i

pub rings_shown : {A : Type 0} (b : Bounds) (w : Window) → CoversBounds w b → (p : Vec (Vec Position A) A) → RingsIn (Some b) p → AreRingsShown w p
rings_shown b w h p i = all_so (RingIn (Some b)) (IsRingShown w) (ring_shown b w h) p.items i

pub polygons_shown : {A : Type 0} (b : Bounds) (w : Window) → CoversBounds w b → (ps : List (Vec (Vec Position A) A)) → AreWithin (Some b) ps → ArePolygonsShown w ps
polygons_shown b w h ps i = all_so (RingsIn (Some b)) (AreRingsShown w) (rings_shown b w h) ps i
