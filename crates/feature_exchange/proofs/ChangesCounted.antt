-- How many positions there are in features that are exchanged.
use Rattle.kit_words.proofs.Common.{◌≡◌, ◌≤◌, ◌<◌, ◌+◌, ℕ, refl, List, length, take, get_or, Option, Some, None}
use Rattle.kit_words.proofs.Common.{option_map, sum_by}
use Rattle.ring_machine.specs.Common.{Feature}
use Rattle.ring_parts.specs.Common.{polygons_seen}
use Rattle.ring_parts.proofs.Common.{counted_flat, counted_more, counted_few}
use Rattle.edit_records.specs.Common.{weight, weights}
use Rattle.feature_exchange.specs.Common.{feature_seen, seen, Change, WholeFeature}

module _ {A : Type 0} where
  -- the number does not matter
  pub weight_any : (n : ℕ) (o : Option (WholeFeature A)) → weight (option_map (feature_seen n) o) ≡ weight (option_map (feature_seen 0) o)
  weight_any n None = refl
  weight_any n (Some w) = refl

  -- a feature's positions, polygon by polygon
  pub weight_polygons : (w : WholeFeature A) → sum_by (sum_by length) (polygons_seen w.polygons.items) ≡ weight (Some (feature_seen 0 w))
  weight_polygons w = counted_flat length (polygons_seen w.polygons.items)

  module _ (cs : List (Change A)) (i : ℕ) (x : Change A) (l : i < length cs) (e : x ≡ get_or cs i x) where
    abbrev pair : Change A → ℕ × Option Feature
    pair c = (c.number, option_map (feature_seen c.number) c.was)

    pub seen_more : weights (seen (take (i + 1) cs)) ≡ weights (seen (take i cs)) + weight (option_map (feature_seen x.number) x.was)
    seen_more = counted_more pair (λ c. weight c.1) cs i x l e

    pub seen_few : weights (seen (take i cs)) + weight (option_map (feature_seen x.number) x.was) ≤ weights (seen cs)
    seen_few = counted_few pair (λ c. weight c.1) cs i x l e
