-- A document with another id for one feature.
use Rattle.kit_words.proofs.Common.{◌≡◌, ℕ, refl, ap, ap₂, ◌∙◌, cond, List, [], ◌∷◌, ◌++◌, map, length}
use Rattle.kit_words.proofs.Common.{Some, arith, ◌==◌, flat_map, list_all, sum_by}
use Rattle.ring_machine.specs.Common.{segments, is_ring, FeatureOf, ItemOf, DocumentOf, Document, Open, Close, Leaf}
use Rattle.ring_machine.specs.Common.{Kept, Text, features, rings_of, rings, size, in_item, becomes, instead}
use Rattle.ring_machine.specs.Common.{renamed, Proper, first_pair, least_conflict}
use Rattle.ring_machine.proofs.InItems.{in_items-agree}
use Rattle.ring_machine.proofs.Found.{features-in_features}

-- the feature with this id where it has the number n
abbrev pub with_id : {R : Type 0} → ℕ → Text → FeatureOf R → FeatureOf R
with_id n id f = cond (f.number == n) (record f { id = Some id }) f

module _ {R : Type 0} (n : ℕ) (id : Text) where
  -- ---- one feature

  same_rings : (f : FeatureOf R) → rings_of (with_id n id f) ≡ rings_of f
  same_rings f = grind arith

  rings_same : (fs : List (FeatureOf R))
      → flat_map rings_of (map (with_id n id) fs) ≡ flat_map rings_of fs
  rings_same [] = refl
  rings_same (f ∷ fs) = ap₂ (λ y z. y ++ z) (same_rings f) (rings_same fs)

  -- ---- the document

  -- a feature with another id stands in the place of feature n
  pub renamed_is : (d : DocumentOf R)
      → renamed d n id ≡ instead n (λ f. record f { id = Some id } ∷ []) d
  renamed_is d =
      in_items-agree (map (in_item (with_id n id))) (flat_map (becomes n (λ f. record f { id = Some id } ∷ []))) items d
    where
      items : (is : List (ItemOf R))
          → map (in_item (with_id n id)) is ≡ flat_map (becomes n (λ f. record f { id = Some id } ∷ [])) is
      items [] = refl
      items (Open h ∷ is) = ap (λ z. Open h ∷ z) (items is)
      items (Close ∷ is) = ap (λ z. Close ∷ z) (items is)
      items (Kept t ∷ is) = ap (λ z. Kept t ∷ z) (items is)
      items (Leaf f ∷ is) = grind (arith, items is)

  module _ (d : DocumentOf R) where
    pub features-renamed : features (renamed d n id) ≡ map (with_id n id) (features d)
    features-renamed = features-in_features (with_id n id) d

    pub rings-renamed : rings (renamed d n id) ≡ rings d
    rings-renamed = ap (flat_map rings_of) features-renamed ∙ rings_same (features d)

-- ---- rings of positions

module _ (d : Document) (n : ℕ) (id : Text) where
  pub size-renamed : size (renamed d n id) ≡ size d
  size-renamed = ap (sum_by length) (rings-renamed n id d)

  pub first_pair-renamed : first_pair (renamed d n id) ≡ first_pair d
  unfolding first_pair
  first_pair-renamed = ap (λ rs. least_conflict (flat_map segments rs)) (rings-renamed n id d)

  pub proper-renamed : Proper d → Proper (renamed d n id)
  proper-renamed p = record {
    are_rings = ap (list_all is_ring) (rings-renamed n id d) ∙ p.are_rings;
    apart = first_pair-renamed ∙ p.apart;
  }
