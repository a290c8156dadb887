-- Rings that are laid beside others, a list at a time.
use Rattle.std.specs.Prelude.{ℕ, ◌≡◌, List, [], length, Option, None, Some, IsTrue}
use Rattle.std.specs.FinMap as table
use Rattle.std.specs.List.{flat_map, sum_by}
use Rattle.grid_geometry.specs.Common.{Position}
use Rattle.vertex_index.specs.Common.{Placement}
use Rattle.arc_tables.specs.Common.{Rings}
use Rattle.ring_parts.specs.Common.{polygons_seen}
use Rattle.feature_exchange.specs.Laid.{numbers_of, AreThere, AreAdded, KeepsPlaces}
use Rattle.ring_store.specs.Common.{keyed_ring}
use Rattle.feature_exchange.specs.declared.laid.LaidRing.{LaidRing}
use Rattle.ring_store.specs.declared.tables.RingTables.{RingTables}
use Rattle.feature_exchange.specs.declared.change.Change.{Change}
use Rattle.feature_exchange.specs.declared.change.WholeFeature.{WholeFeature}

-- more rings were laid, and are listed with those that had been laid before
pub record AreLaid {A : Type 0} (p : Placement) (m : Rings) (laid : List (LaidRing A)) (q : Placement)
    (n : Rings) (more : List (LaidRing A)) : Type 0 where
  pub there : AreThere m laid → AreThere n more
  pub added : (first : Rings) → AreThere m laid → AreAdded first m (numbers_of laid)
      → AreAdded first n (numbers_of more)
  pub kept : KeepsPlaces p q
  -- a ring that stood goes along the same positions
  pub stands : (r : ℕ) → IsTrue (table.contains_key m r) → IsTrue (table.contains_key n r)
  pub still : (r : ℕ) → IsTrue (table.contains_key m r) → keyed_ring q n r ≡ keyed_ring p m r

-- the same of tables
abbrev pub LaysMore : {I A : Type 0} → RingTables I A → List (LaidRing A) → RingTables I A
    → List (LaidRing A) → Type 0
LaysMore t laid u more = AreLaid t.vertices t.borders laid u.vertices u.borders more

-- the positions of some rings
abbrev pub length_of : List (List Position) → ℕ
length_of rings = sum_by length rings

module _ {A : Type 0} where
  abbrev pub polygons_in : Option (WholeFeature A) → List (List (List Position))
  polygons_in None = []
  polygons_in (Some w) = polygons_seen w.polygons.items

  -- the polygons that a number is to have
  abbrev pub asked : Change A → List (List (List Position))
  asked c = polygons_in c.was

  -- the rings that a number is to have
  abbrev pub asked_rings : Change A → List (List Position)
  asked_rings c = flat_map (λ polygon. polygon) (asked c)
