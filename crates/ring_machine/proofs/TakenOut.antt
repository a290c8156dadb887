-- What a document is without one of its features.
use Rattle.kit_words.proofs.Common.{◌≡◌, ℕ, false, refl, ap, ◌∙◌, cond, List, arith, [], ◌∷◌, map, Option, sym, ◌==◌}
use Rattle.kit_words.proofs.Common.{not, filter, filter_map, flat_map, list_any, filter-append, or_parts}
use Rattle.ring_machine.specs.Common.{ItemOf, LayerOf, DocumentOf, Open, Close, Leaf, Kept, Text, Member, feature_of}
use Rattle.ring_machine.specs.Common.{features, in_layer, in_items, has_feature, becomes, is_leaf, empty_collection}
use Rattle.ring_machine.specs.Common.{take_out}
use Rattle.ring_machine.proofs.InItems.{features-in_items, in_items-left}
use Rattle.ring_machine.proofs.Swapped.{without, without_swapped}
use Rattle.ring_machine.proofs.Instead.{features_becomes, becomes_none}

-- a layer's items without feature n
abbrev pub taken : {R : Type 0} → ℕ → List (ItemOf R) → List (ItemOf R)
taken n (Leaf f ∷ []) = cond (f.number == n) empty_collection (Leaf f ∷ [])
taken n items = filter (λ i. not (is_leaf n i)) items

module _ {R : Type 0} (n : ℕ) where
  -- ---- items

  abbrev with_layers : Option Text → List Member → List (LayerOf R) → DocumentOf R
  with_layers t m ls = record { transform = t; layers = ls; members = m }

  layers_taken : (t : Option Text) (m : List Member) (ls : List (LayerOf R))
      → (take_out (with_layers t m ls) n).layers ≡ map (in_layer (taken n)) ls
  unfolding take_out
  layers_taken t m [] = refl
  layers_taken t m (l ∷ ls) = by l.items (layers_taken t m ls)
    where
      by : (is : List (ItemOf R)) → (take_out (with_layers t m ls) n).layers ≡ map (in_layer (taken n)) ls
          → (take_out (with_layers t m (record { name = l.name; items = is } ∷ ls)) n).layers
          ≡ record { name = l.name; items = taken n is } ∷ map (in_layer (taken n)) ls
      by (Leaf f ∷ []) e = ap (λ z. record { name = l.name; items = taken n (Leaf f ∷ []) } ∷ z) e
      by is e = ap (λ z. record { name = l.name; items = taken n is } ∷ z) e

  pub take_out_is : (d : DocumentOf R) → take_out d n ≡ in_items (taken n) d
  unfolding take_out
  take_out_is d =
      ap (λ z. record { transform = d.transform; layers = z; members = d.members }) (layers_taken d.transform d.members d.layers)

  -- without its leaves is with none in their place
  pub filtered_is : (is : List (ItemOf R))
      → filter (λ i. not (is_leaf n i)) is ≡ flat_map (becomes n (λ f. [])) is
  filtered_is [] = refl
  filtered_is (Open h ∷ is) = ap (λ z. Open h ∷ z) (filtered_is is)
  filtered_is (Close ∷ is) = ap (λ z. Close ∷ z) (filtered_is is)
  filtered_is (Kept t ∷ is) = ap (λ z. Kept t ∷ z) (filtered_is is)
  filtered_is (Leaf f ∷ is) = grind (arith, filtered_is is)

  features_filtered : (is : List (ItemOf R))
      → filter_map feature_of (filter (λ i. not (is_leaf n i)) is) ≡ without n (filter_map feature_of is)
  features_filtered is =
      ap (filter_map feature_of) (filtered_is is) ∙ features_becomes n (λ f. []) is
      ∙ sym (without_swapped n (filter_map feature_of is))

  features_taken : (is : List (ItemOf R))
      → filter_map feature_of (taken n is) ≡ without n (filter_map feature_of is)
  features_taken [] = refl
  features_taken (Open h ∷ is) = features_filtered is
  features_taken (Close ∷ is) = features_filtered is
  features_taken (Kept t ∷ is) = features_filtered is
  features_taken (Leaf f ∷ i ∷ is) = features_filtered (Leaf f ∷ i ∷ is)
  features_taken (Leaf f ∷ []) = grind arith

  -- the features are the others, in their order
  pub features-take_out : (d : DocumentOf R) → features (take_out d n) ≡ without n (features d)
  features-take_out d =
      ap features (take_out_is d)
      ∙ features-in_items (taken n) (without n) refl (filter-append (λ f. not (f.number == n))) features_taken d

  -- ---- where no feature has the number

  pub filtered_none : (is : List (ItemOf R))
      → list_any (λ f. f.number == n) (filter_map feature_of is) ≡ false
      → filter (λ i. not (is_leaf n i)) is ≡ is
  filtered_none is h = filtered_is is ∙ becomes_none n (λ f. []) is h

  pub taken_none : (is : List (ItemOf R))
      → list_any (λ f. f.number == n) (filter_map feature_of is) ≡ false → taken n is ≡ is
  taken_none [] h = refl
  taken_none (Open a ∷ is) h = filtered_none (Open a ∷ is) h
  taken_none (Close ∷ is) h = filtered_none (Close ∷ is) h
  taken_none (Kept t ∷ is) h = filtered_none (Kept t ∷ is) h
  taken_none (Leaf f ∷ i ∷ is) h = filtered_none (Leaf f ∷ i ∷ is) h
  taken_none (Leaf f ∷ []) h =
      ap (λ b. cond b empty_collection (Leaf f ∷ [])) (or_parts (f.number == n) false h).0

  -- nothing changes
  pub take_out_none : (d : DocumentOf R) → has_feature d n ≡ false → take_out d n ≡ d
  take_out_none d h = take_out_is d ∙ in_items-left (taken n) (λ f. f.number == n) taken_none d h
