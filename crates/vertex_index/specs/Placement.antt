-- Positions under keys.
use Rattle.std.specs.Prelude.{◌≡◌, ◌↔◌, ℕ, ℤ, List, Contains, pos, Some, refl, unwrap_or}
use Rattle.std.specs.Coded.{Coded, code_by, coded×, coded_ℤ}
use Rattle.std.specs.Ordering.{nat_cmp}
use Rattle.std.specs.FinMap as map
use Rattle.grid_geometry.specs.Common.{Position, position, InRange}

-- which position stands under which key
abbrev pub Placement : Type 0
Placement = map.FinMap nat_cmp Position

-- a vertex stands at this position
abbrev pub IsOccupied : Placement → Position → Type 0
IsOccupied m p = (k : ℕ) × (map.get m k ≡ Some p)

-- these are the positions of all vertices
abbrev pub ArePlaces : Placement → List Position → Type 0
ArePlaces m ps = (p : Position) → Contains ps p ↔ IsOccupied m p

-- the position of the vertex with this key
abbrev pub place : Placement → ℕ → Position
place m k = unwrap_or (map.get m k) (position (pos 0) (pos 0))

-- no two keys have the same position
abbrev pub AreDistinct : Placement → Type 0
AreDistinct m = (j k : ℕ) (p : Position) → map.get m j ≡ Some p → map.get m k ≡ Some p → j ≡ k

-- each position is in range
abbrev pub AreInRange : Placement → Type 0
AreInRange m = (k : ℕ) (p : Position) → map.get m k ≡ Some p → InRange p

-- a position is stored as the pair of its coordinates
abbrev pub position_code : Coded Position
position_code =
    code_by (ℤ × ℤ) (coded× coded_ℤ coded_ℤ) (λ p. (p.x, p.y)) (λ c. position c.0 c.1) (λ _. refl)
