-- What the readers of a map say of a feature, its polygons and their rings.
use Rattle.kit_words.proofs.Common.{◌≡◌, ℕ, ◌≤◌, ◌+◌, zero, suc, Bool, true, false, cond, refl, sym, ap, ◌∙◌, List, []}
use Rattle.kit_words.proofs.Common.{◌∷◌, map, length, get_or, Some, None, arith, ◌==◌, Option, is_some, option_map}
use Rattle.kit_words.proofs.Common.{unwrap_or, slice_get, find, list_any, sum_by-cons, unwrap_or-slice_get, length-map}
use Rattle.std.specs.Prelude.{sum_by}
use Rattle.grid_geometry.specs.Common.{Position}
use Rattle.ring_machine.specs.Common.{Document, Feature, features, feature, has_feature, rings_of, size, feature_at}
use Rattle.ring_machine.specs.Common.{or_else, no_feature}
use Rattle.map_frame.specs.Common.{Shown, shown, element, frame_ring}
use Rattle.ring_machine.proofs.Common.{is_some-mapped}
use Rattle.feature_exchange.proofs.Placed.{sum_flat}

-- the ring with these numbers, and none where there is no such ring
pub ring_is : (d : Document) (n polygon ring : ℕ) → unwrap_or (frame_ring d n polygon ring) [] ≡ get_or (get_or (feature_at d n).polygons polygon []) ring []
ring_is d n polygon ring = of_feature (feature d n)
  where
    of_polygon : (o : Option (List (List Position))) → unwrap_or (element o ring) [] ≡ get_or (unwrap_or o []) ring []
    of_polygon None = refl
    of_polygon (Some rings) = unwrap_or-slice_get rings ring []

    of_feature : (o : Option Feature) → unwrap_or (element (element (option_map (λ f. f.polygons) o) polygon) ring) [] ≡ get_or (get_or (or_else no_feature o).polygons polygon []) ring []
    of_feature None = refl
    of_feature (Some f) =
        of_polygon (slice_get f.polygons polygon)
        ∙ ap (λ rings. get_or rings ring []) (unwrap_or-slice_get f.polygons polygon [])

pub ring_read : (d : Document) (n polygon ring : ℕ) (positions : List Position) → Some positions ≡ frame_ring d n polygon ring → positions ≡ get_or (get_or (feature_at d n).polygons polygon []) ring []
ring_read d n polygon ring positions e = ap (λ o. unwrap_or o []) e ∙ ring_is d n polygon ring

pub no_ring_read : (d : Document) (n polygon ring : ℕ) → None ≡ frame_ring d n polygon ring → [] ≡ get_or (get_or (feature_at d n).polygons polygon []) ring []
no_ring_read d n polygon ring e = ap (λ o. unwrap_or o []) e ∙ ring_is d n polygon ring

-- what is shown of a feature has its polygons' numbers of rings
pub numbers_shown : (d : Document) (n : ℕ) (v : Shown) → Some v ≡ option_map shown (feature d n) → v.rings ≡ map length (feature_at d n).polygons
numbers_shown d n v = by (feature d n)
  where
    by : (o : Option Feature) → Some v ≡ option_map shown o → v.rings ≡ map length (or_else no_feature o).polygons
    by None e = absurd cc
    by (Some f) e = ap (λ o. unwrap_or (option_map (λ s. s.rings) o) []) e

pub count_is : (polygons : List (List (List Position))) (i : ℕ) → unwrap_or (slice_get (map length polygons) i) 0 ≡ length (get_or polygons i [])
count_is [] i = refl
count_is (p ∷ polygons) zero = refl
count_is (p ∷ polygons) (suc i) = count_is polygons i

pub length_shown : (d : Document) (n : ℕ) (v : Shown) → Some v ≡ option_map shown (feature d n) → length v.rings ≡ length (feature_at d n).polygons
length_shown d n v e = ap length (numbers_shown d n v e) ∙ length-map (feature_at d n).polygons length

pub count_shown : (d : Document) (n : ℕ) (v : Shown) → Some v ≡ option_map shown (feature d n) → (polygon : ℕ)
    → unwrap_or (slice_get v.rings polygon) 0 ≡ length (get_or (feature_at d n).polygons polygon [])
count_shown d n v e polygon =
    ap (λ ns. unwrap_or (slice_get ns polygon) 0) (numbers_shown d n v e) ∙ count_is (feature_at d n).polygons polygon

-- a feature has the number where one is shown
pub is_shown : (d : Document) (n : ℕ) → has_feature d n ≡ is_some (option_map shown (feature d n))
is_shown d n = at (features d) ∙ sym (is_some-mapped shown (feature d n))
  where
    at : (fs : List Feature) → list_any (λ f. f.number == n) fs ≡ is_some (find (λ f. f.number == n) fs)
    at [] = refl
    at (f ∷ fs) = grind (arith, at fs)

-- ---- how many positions there are

-- one of a sum, and nothing where there is none
pub one_of : {A : Type 0} (h : List A → ℕ) (xs : List (List A)) (i : ℕ) → h [] ≡ 0 → h (get_or xs i []) ≤ sum_by h xs
one_of h [] i e = omega (arith, e)
one_of h (x ∷ xs) zero e = simp sum_by-cons (omega arith)
one_of h (x ∷ xs) (suc i) e = simp sum_by-cons (omega (arith, one_of h xs i e))

-- a feature has no more positions than its document
pub feature-le-size : (d : Document) (n : ℕ) → sum_by (sum_by length) (feature_at d n).polygons ≤ size d
feature-le-size d n = omega (arith, at (features d), whole)
  where
    whole : size d ≡ sum_by (λ f. sum_by (sum_by length) f.polygons) (features d)
    whole =
        sum_flat length rings_of (features d)
        ∙ ap (λ h. sum_by h (features d)) (λ i f. sum_flat length (λ rings. rings) f.polygons i)

    at : (fs : List Feature) → sum_by (sum_by length) (or_else no_feature (find (λ f. f.number == n) fs)).polygons ≤ sum_by (λ f. sum_by (sum_by length) f.polygons) fs
    at [] = omega arith
    at (f ∷ fs) = simp sum_by-cons (by (f.number == n) (at fs))
      where
        by : (b : Bool) → sum_by (sum_by length) (or_else no_feature (find (λ g. g.number == n) fs)).polygons ≤ sum_by (λ g. sum_by (sum_by length) g.polygons) fs
            → sum_by (sum_by length) (or_else no_feature (cond b (Some f) (find (λ g. g.number == n) fs))).polygons
            ≤ sum_by (sum_by length) f.polygons + sum_by (λ g. sum_by (sum_by length) g.polygons) fs
        by true h = omega arith
        by false h = omega (arith, h)
