-- What is left out of a ring where it is drawn: points that add nothing.
use Rattle.std.specs.Prelude.{◌≡◌, ℤ, Bool, ◌&&◌, ◌||◌, List, [], ◌∷◌, ◌++◌, if◌then◌else◌, int_le, Option, Some, None}
use Rattle.std.specs.Ordering.{int_eq}
use Rattle.map_drawing.specs.Points.{IsBeside, is_same}
use Rattle.map_drawing.specs.declared.points.Point.{Point}

-- ---- points at the point of the one before

-- a point, unless it is the one before it
abbrev pub other_point : Point → Point → List Point
other_point p q = if is_same p q then [] else (q ∷ [])

-- those after a point
abbrev pub apart_from : Point → List Point → List Point
apart_from p [] = []
apart_from p (q ∷ qs) = other_point p q ++ apart_from q qs

-- a ring without them
abbrev pub apart : List Point → List Point
apart [] = []
apart (p ∷ ps) = p ∷ apart_from p ps

-- a ring at one point has a second one beside it
abbrev pub IsSecond : List Point → Option Point → Type 0
IsSecond [] second = second ≡ None
IsSecond (p ∷ []) second = (q : Point) × IsBeside p q × (second ≡ Some q)
IsSecond (p ∷ q ∷ ps) second = second ≡ None

-- and is drawn at both; any other at its points
abbrev pub IsVisible : List Point → List Point → Type 0
IsVisible [] drawn = drawn ≡ []
IsVisible (p ∷ []) drawn = (q : Point) × IsBeside p q × (drawn ≡ p ∷ q ∷ [])
IsVisible (p ∷ q ∷ ps) drawn = drawn ≡ p ∷ q ∷ ps

-- ---- points on a way straight along or straight down

-- one of two numbers, or between them
abbrev pub is_amid : ℤ → ℤ → ℤ → Bool
is_amid from at to = (int_le from at && int_le at to) || (int_le to at && int_le at from)

-- three numbers are one
abbrev pub are_equal : ℤ → ℤ → ℤ → Bool
are_equal from at to = int_eq from at && int_eq at to

-- on the way straight along between two points
abbrev pub is_along : Point → Point → Point → Bool
is_along a b c = are_equal a.y b.y c.y && is_amid a.x b.x c.x

-- on the way straight down between two points
abbrev pub is_down : Point → Point → Point → Bool
is_down a b c = are_equal a.x b.x c.x && is_amid a.y b.y c.y

-- on one of these ways
abbrev pub is_level : Point → Point → Point → Bool
is_level a b c = is_along a b c || is_down a b c

-- a point between two others, unless it is on such a way
abbrev pub corner_of : Point → Point → Point → List Point
corner_of a b c = if is_level a b c then [] else (b ∷ [])

-- what stays of the points after a: of b and those after it
abbrev pub corners_from : Point → Point → List Point → List Point
corners_from a b [] = b ∷ []
corners_from a b (c ∷ ps) = corner_of a b c ++ corners_from b c ps

-- what stays of a ring; the first and the last point do
abbrev pub corners : List Point → List Point
corners [] = []
corners (a ∷ []) = a ∷ []
corners (a ∷ b ∷ ps) = a ∷ corners_from a b ps
