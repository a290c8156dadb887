-- What is found among features that stand at the places of their numbers.
use Rattle.kit_words.proofs.Common.{◌≡◌, ℕ, Bool, true, false, refl, sym, ap, ap₂, ◌∙◌, cond, List, [], ◌∷◌, ◌++◌, ◌||◌}
use Rattle.kit_words.proofs.Common.{map, Option, Some, None, option_map, eqb-true, ◌==◌, list_any, find, flat_map}
use Rattle.kit_words.proofs.Common.{filter_map, option_or, map-append, filter_map-append, find-append, list_any-append}
use Rattle.ring_machine.specs.Common.{FeatureOf, DocumentOf, Open, Close, Kept, feature_of, feature, in_item, in_layer}
use Rattle.ring_machine.specs.Common.{in_features, in_feature, in_rings}
use Rattle.ring_machine.proofs.Common.{feature-in_features, of_layers}
use Rattle.edit_records.specs.Common.{Place, Begins, Ends, Text_of, Number, Tree, Alone, Places, LayerTree, number_of}
use Rattle.edit_records.specs.Common.{numbers_of, numbers_placed, has_place, leaf, or_empty, item_at, items_of, filled}
use Rattle.edit_records.specs.Common.{Fills}
use Rattle.edit_records.proofs.PlacesBack.{filled-agree}

-- every feature has the number by which it is found
abbrev pub AreOwn : {R : Type 0} → (ℕ → Option (FeatureOf R)) → Type 0
AreOwn {R} k = (n : ℕ) (f : FeatureOf R) → k n ≡ Some f → f.number ≡ n

-- ---- found by a number

module _ {R : Type 0} (k : ℕ → Option (FeatureOf R)) (own : AreOwn k) (m : ℕ) where
  abbrev test : FeatureOf R → Bool
  test f = f.number == m

  -- what the number m has, where it is one of these
  abbrev among : List ℕ → Option (FeatureOf R)
  among ns = cond (list_any (λ n. n == m) ns) (k m) None

  among-append : (ns ms : List ℕ) → among (ns ++ ms) ≡ option_or (among ns) (among ms)
  among-append ns ms =
      ap (λ b. cond b (k m) None) (list_any-append (λ n. n == m) ns ms)
      ∙ by (list_any (λ n. n == m) ns) (list_any (λ n. n == m) ms) (k m)
    where
      by : (b c : Bool) (o : Option (FeatureOf R))
          → cond (b || c) o None ≡ option_or (cond b o None) (cond c o None)
      by false c o = refl
      by true c (Some f) = refl
      by true true None = refl
      by true false None = refl

  found_leaf : (n : ℕ) (o : Option (FeatureOf R)) → k n ≡ o
      → find test (filter_map feature_of (leaf o)) ≡ among (n ∷ [])
  found_leaf n None e = by (n == m) refl
    where
      by : (b : Bool) → (n == m) ≡ b → None ≡ cond (b || false) (k m) None
      by true t = sym e ∙ ap k (eqb-true n m t)
      by false t = refl
  found_leaf n (Some f) e =
      ap (λ i. cond (i == m) (Some f) None) (own n f e) ∙ by (n == m) refl
    where
      by : (b : Bool) → (n == m) ≡ b → cond b (Some f) None ≡ cond (b || false) (k m) None
      by true t = sym e ∙ ap k (eqb-true n m t)
      by false t = refl

  found_alone : (o : Option (FeatureOf R))
      → find test (filter_map feature_of (or_empty (leaf o))) ≡ find test (filter_map feature_of (leaf o))
  found_alone None = refl
  found_alone (Some f) = refl

  found_item : (p : Place) → find test (filter_map feature_of (item_at k p)) ≡ among (number_of p)
  found_item (Begins h) = refl
  found_item Ends = refl
  found_item (Text_of t) = refl
  found_item (Number n) = found_leaf n (k n) refl

  found_items : (ps : List Place)
      → find test (filter_map feature_of (flat_map (item_at k) ps)) ≡ among (flat_map number_of ps)
  found_items [] = refl
  found_items (p ∷ ps) =
      ap (find test) (filter_map-append feature_of (item_at k p) (flat_map (item_at k) ps))
      ∙ find-append test (filter_map feature_of (item_at k p)) (filter_map feature_of (flat_map (item_at k) ps))
      ∙ ap₂ (λ y z. option_or y z) (found_item p) (found_items ps)
      ∙ sym (among-append (number_of p) (flat_map number_of ps))

  found_tree : (t : Tree) → find test (filter_map feature_of (items_of k t)) ≡ among (numbers_of t)
  found_tree (Alone n) = found_alone (k n) ∙ found_leaf n (k n) refl
  found_tree (Places ps) = found_items ps

  -- the feature of m, where m has a place
  pub found-filled : (trees : List LayerTree)
      → find test (of_layers (filled k trees)) ≡ cond (has_place trees m) (k m) None
  found-filled [] = refl
  found-filled (l ∷ ls) =
      find-append test (filter_map feature_of (items_of k l.tree)) (of_layers (filled k ls))
      ∙ ap₂ (λ y z. option_or y z) (found_tree l.tree) (found-filled ls)
      ∙ sym (among-append (numbers_of l.tree) (numbers_placed ls))

-- ---- changed in their places

module _ {R S : Type 0} (g : FeatureOf R → FeatureOf S) (k : ℕ → Option (FeatureOf R)) where
  abbrev changed : ℕ → Option (FeatureOf S)
  changed n = option_map g (k n)

  leaf_changed : (o : Option (FeatureOf R)) → map (in_item g) (leaf o) ≡ leaf (option_map g o)
  leaf_changed None = refl
  leaf_changed (Some f) = refl

  alone_changed : (o : Option (FeatureOf R))
      → map (in_item g) (or_empty (leaf o)) ≡ or_empty (leaf (option_map g o))
  alone_changed None = refl
  alone_changed (Some f) = refl

  items_changed : (ps : List Place)
      → map (in_item g) (flat_map (item_at k) ps) ≡ flat_map (item_at changed) ps
  items_changed [] = refl
  items_changed (Begins h ∷ ps) = ap (λ z. Open h ∷ z) (items_changed ps)
  items_changed (Ends ∷ ps) = ap (λ z. Close ∷ z) (items_changed ps)
  items_changed (Text_of t ∷ ps) = ap (λ z. Kept t ∷ z) (items_changed ps)
  items_changed (Number n ∷ ps) =
      map-append (in_item g) (leaf (k n)) (flat_map (item_at k) ps)
      ∙ ap₂ (λ y z. y ++ z) (leaf_changed (k n)) (items_changed ps)

  tree_changed : (t : Tree) → map (in_item g) (items_of k t) ≡ items_of changed t
  tree_changed (Alone n) = alone_changed (k n)
  tree_changed (Places ps) = items_changed ps

  pub filled-changed : (trees : List LayerTree)
      → map (in_layer (map (in_item g))) (filled k trees) ≡ filled changed trees
  filled-changed [] = refl
  filled-changed (l ∷ ls) =
      ap₂ (λ y z. record { name = l.name; items = y } ∷ z) (tree_changed l.tree) (filled-changed ls)

-- features that keep their numbers stand at their places
pub fills-in_features : {R S : Type 0} (g : FeatureOf R → FeatureOf S)
    → ((f : FeatureOf R) → (g f).number ≡ f.number) → (trees : List LayerTree) (d : DocumentOf R)
    → Fills trees d → Fills trees (in_features g d)
fills-in_features g same trees d fills =
    ap (map (in_layer (map (in_item g)))) fills
    ∙ filled-changed g (feature d) trees
    ∙ filled-agree (λ n. option_map g (feature d n)) (feature (in_features g d)) trees
    (λ n i. sym (feature-in_features g same d n))

pub fills-in_rings : {R S : Type 0} (g : R → S) (trees : List LayerTree) (d : DocumentOf R)
    → Fills trees d → Fills trees (in_rings g d)
fills-in_rings g trees d fills = fills-in_features (in_feature g) (λ f. refl) trees d fills
