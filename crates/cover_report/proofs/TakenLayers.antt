-- The polygons of a layer, as they are taken off those of all features.
use Rattle.kit_words.proofs.Common.{◌≡◌, ◌∙◌, ℕ, List, Vec, ap, sym, subst, length, length-map, map, take, take-map, drop, drop-map}
use Rattle.grid_geometry.specs.Common.{Position}
use Rattle.ring_machine.specs.Common.{Text}
use Rattle.ring_parts.specs.Common.{polygons_seen, rings_seen}
use Rattle.layer_sides.specs.Common.{IsProperLayer, Polygon}
use Rattle.cover_report.specs.Layers.{layer_of, numbers_in, owners_from, polygons_in}
use Rattle.cover_report.specs.Owned.{owned_layer}
use Rattle.cover_report.specs.declared.layers.Owned.{Owned}
use Rattle.cover_report.proofs.ProperLayers.{proper_left, proper_taken}
use Rattle.cover_report.proofs.Taken.{owners_length}

module _ {X : Type 0} (of : X → List Polygon) (rest : List X) where
  pub taken_proper : (count : ℕ) (polygons : List Polygon) → IsProperLayer (polygons_in (map of rest)) → polygons ≡ polygons_in (map of (take count rest)) → IsProperLayer polygons
  taken_proper count polygons proper is =
      subst IsProperLayer (sym (is ∙ ap polygons_in (sym (take-map of count rest)))) (proper_taken count (map of rest) proper)

  pub left_proper : (count : ℕ) (left : List X) → IsProperLayer (polygons_in (map of rest)) → left ≡ drop count rest → IsProperLayer (polygons_in (map of left))
  left_proper count left proper is =
      subst (λ (fs : List (List Polygon)). IsProperLayer (polygons_in fs)) (sym (ap (map of) is ∙ sym (drop-map of count rest))) (proper_left count (map of rest) proper)

  -- there is an owner of each
  pub taken_owned : {A : Type 0} (first count : ℕ) (polygons : List (Vec (Vec Position A) A)) (owners : List ℕ) → polygons_seen polygons ≡ polygons_in (map of (take count rest))
      → owners ≡ owners_from first (map of (take count rest)) → length owners ≡ length polygons
  taken_owned {A = A} first count polygons owners is owned =
      ap length owned ∙ owners_length first (map of (take count rest)) ∙ sym (ap length is)
      ∙ length-map polygons (λ (p : Vec (Vec Position A) A). rings_seen p.items)

  pub taken_layer : {A : Type 0} (name : Text) (first count n : ℕ) (owned : Owned A) → count ≡ n → polygons_seen owned.polygons.items ≡ polygons_in (map of (take count rest))
      → owned.owners.items ≡ owners_from first (map of (take count rest)) → owned.numbers.items ≡ numbers_in (map of (take count rest))
      → owned_layer name owned ≡ layer_of name first (take n (map of rest))
  taken_layer name first count n owned same p o q =
      let is : map of (take count rest) ≡ take n (map of rest) = sym (take-map of count rest) ∙ ap (λ k. take k (map of rest)) same in
      λ i. record {
        name = name;
        polygons = (p ∙ ap polygons_in is) i;
        owners = (o ∙ ap (owners_from first) is) i;
        numbers = (q ∙ ap numbers_in is) i;
      }
