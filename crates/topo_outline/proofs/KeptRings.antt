-- A document whose rings are changed in place keeps the texts that it kept.
use Rattle.kit_words.proofs.Common.{ℕ, List, [], ◌∷◌, map, AllByRecursion, AllZip}
use Rattle.ring_machine.specs.Common.{ItemOf, LayerOf, DocumentOf, Open, Close, Leaf, Kept, in_feature, in_item}
use Rattle.ring_machine.specs.Common.{in_layer, in_rings}
use Rattle.topo_outline.specs.Common.{IsName, KeepsItem, KeepsTexts}

-- the items of each layer are ones that opening would keep
abbrev KeepsLayers : {R : Type 0} → List (LayerOf R) → Type 0
KeepsLayers ls = AllByRecursion (λ l. AllByRecursion KeepsItem l.items) ls

-- the names of the layers stand for these texts
abbrev AreNamed : {R : Type 0} → List (LayerOf R) → List (List ℕ) → Type 0
AreNamed ls names = AllZip (λ l t. IsName l.name t) ls names

module _ {R S : Type 0} (g : R → S) where
  abbrev within : List (LayerOf R) → List (LayerOf S)
  within ls = map (in_layer (map (in_item (in_feature g)))) ls

  -- ---- what is kept stays so

  items_keep : (items : List (ItemOf R)) → AllByRecursion KeepsItem items
      → AllByRecursion KeepsItem (map (in_item (in_feature g)) items)
  items_keep [] h = tt
  items_keep (Close ∷ items) h = (tt, items_keep items h.1)
  items_keep (_ ∷ items) h = (h.0, items_keep items h.1)

  layers_keep : (ls : List (LayerOf R)) → KeepsLayers ls → KeepsLayers (within ls)
  layers_keep [] h = tt
  layers_keep (l ∷ ls) h = (items_keep l.items h.0, layers_keep ls h.1)

  named_keep : (ls : List (LayerOf R)) (names : List (List ℕ)) → AreNamed ls names
      → AreNamed (within ls) names
  named_keep [] [] h = tt
  named_keep [] (t ∷ names) h = absurd h
  named_keep (l ∷ ls) [] h = absurd h
  named_keep (l ∷ ls) (t ∷ names) h = (h.0, named_keep ls names h.1)

  pub keeps-in_rings : (d : DocumentOf R) → KeepsTexts d → KeepsTexts (in_rings g d)
  keeps-in_rings d h = record {
    transform = h.transform;
    layer_names = h.layer_names;
    layers_named = named_keep d.layers h.layer_names h.layers_named;
    layers_differ = h.layers_differ;
    items = layers_keep d.layers h.items;
    members = h.members;
  }

  -- ---- and was so before

  items_kept : (items : List (ItemOf R))
      → AllByRecursion KeepsItem (map (in_item (in_feature g)) items) → AllByRecursion KeepsItem items
  items_kept [] h = tt
  items_kept (Close ∷ items) h = (tt, items_kept items h.1)
  items_kept (_ ∷ items) h = (h.0, items_kept items h.1)

  layers_kept : (ls : List (LayerOf R)) → KeepsLayers (within ls) → KeepsLayers ls
  layers_kept [] h = tt
  layers_kept (l ∷ ls) h = (items_kept l.items h.0, layers_kept ls h.1)

  named_kept : (ls : List (LayerOf R)) (names : List (List ℕ)) → AreNamed (within ls) names
      → AreNamed ls names
  named_kept [] [] h = tt
  named_kept [] (t ∷ names) h = absurd h
  named_kept (l ∷ ls) [] h = absurd h
  named_kept (l ∷ ls) (t ∷ names) h = (h.0, named_kept ls names h.1)

  pub keeps-before_rings : (d : DocumentOf R) → KeepsTexts (in_rings g d) → KeepsTexts d
  keeps-before_rings d h = record {
    transform = h.transform;
    layer_names = h.layer_names;
    layers_named = named_kept d.layers h.layer_names h.layers_named;
    layers_differ = h.layers_differ;
    items = layers_kept d.layers h.items;
    members = h.members;
  }
