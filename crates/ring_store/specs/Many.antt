-- Vertices put back that were left out, one after the other.
use Rattle.std.specs.Prelude.{ℕ, ◌≡◌, ◌≢◌, List, [], ◌∷◌, map, Some, None, option_map}
use Rattle.std.specs.List.{flat_map}
use Rattle.std.specs.FinMap as table
use Rattle.grid_geometry.specs.Common.{Segment, segment}
use Rattle.vertex_index.specs.Common.{Placement, IsOccupied}
use Rattle.arc_tables.specs.declared.batch.Put.{Put}
use Rattle.arc_tables.specs.Common.{throughs, gained, Rings}
use Rattle.ring_store.specs.Planned.{spokes}
use Rattle.ring_store.specs.declared.removal.Removal.{Removal}

-- ---- before

-- each in turn comes where no vertex stands, between two different ones, which are vertices by then
abbrev pub ArePlaceable : Placement → List Removal → Type 0
ArePlaceable places [] = Unit {0}
ArePlaceable places (r ∷ rs) =
    (r.a ≢ r.b) × IsOccupied places r.a × IsOccupied places r.b × ¬ IsOccupied places r.at
    × ((k : ℕ) → table.get places k ≡ None → ArePlaceable (table.insert places k r.at) rs)

-- the segments that come with them
abbrev pub comings : List Removal → List Segment
comings rs = flat_map (λ r. spokes r.at (r.a ∷ r.b ∷ [])) rs

-- and those that go
abbrev pub goings : List Removal → List Segment
goings rs = map (λ r. segment r.a r.b) rs

-- ---- afterwards

-- these are the puts of the vertices, each under a key that is new by then
abbrev pub AreKeyed : Placement → List Removal → List Put → Placement → Type 0
AreKeyed places [] [] places' = places' ≡ places
AreKeyed places (r ∷ rs) (p ∷ ps) places' =
    (table.get places p.a ≡ Some r.a) × (table.get places p.b ≡ Some r.b)
    × (table.get places p.q ≡ None) × AreKeyed (table.insert places p.q r.at) rs ps places'
AreKeyed places [] (p ∷ ps) places' = ⊥
AreKeyed places (r ∷ rs) [] places' = ⊥

-- the vertices stand in the rings again, which gained so many positions
pub record ArePutBack (places places' : Placement) (rings rings' : Rings) (rs : List Removal)
    (n : ℕ) : Type 0 where
  pub puts : List Put
  pub keyed : AreKeyed places rs puts places'
  pub edited : (r : ℕ) → table.get rings' r ≡ option_map (throughs puts) (table.get rings r)
  pub many : n ≡ gained puts (table.values rings)
