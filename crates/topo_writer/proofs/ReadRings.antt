-- The rings of a polygon, one after another.
use Rattle.kit_words.proofs.Common.{◌≡◌, ℕ, zero, suc, ◌<◌, refl, List, [], ◌∷◌, length, get_or, arith, Option, Some}
use Rattle.kit_words.proofs.Common.{None, option_map, unwrap_or, AllByRecursion, unwrap_or-slice_get}
use Rattle.grid_geometry.specs.Common.{Position}
use Rattle.ring_machine.specs.Common.{Document, feature}
use Rattle.map_frame.specs.Common.{element}
use Rattle.topo_writer.specs.Common.{positions_at, rings_at}

-- a ring of a polygon is the ring with its number
pub ring_is : (d : Document) (n polygon ring : ℕ) → positions_at d n polygon ring ≡ get_or (rings_at d n polygon) ring []
ring_is d n polygon ring = by (element (option_map (λ f. f.polygons) (feature d n)) polygon)
  where
    by : (o : Option (List (List Position))) → unwrap_or (element o ring) [] ≡ get_or (unwrap_or o []) ring []
    by None = refl
    by (Some rs) = unwrap_or-slice_get rs ring []

pub each_place : {A : Type 0} (P : A → Type 0) (xs : List A) (i : ℕ) (d : A) → AllByRecursion P xs → i < length xs → P (get_or xs i d)
each_place P [] i d h l = absurd (omega (arith, l))
each_place P (x ∷ xs) zero d h l = h.0
each_place P (x ∷ xs) (suc i) d h l = each_place P xs i d h.1 (omega (arith, l))
