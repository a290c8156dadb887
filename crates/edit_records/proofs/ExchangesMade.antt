-- The edits of features, each as an exchange at the places of their numbers.
use Rattle.kit_words.proofs.Common.{◌≡◌, ◌≢◌, ℕ, Bool, true, false, refl, sym, ap, ap₂, ◌∙◌, cond, List, [], ◌∷◌, ◌++◌}
use Rattle.kit_words.proofs.Common.{◌||◌, map, Option, Some, None, option_map, inl, inr, eqb-true, eq-eqb}
use Rattle.kit_words.proofs.Common.{◌==◌, not, flat_map, filter, list_all, find, false≢true, append-nil}
use Rattle.kit_words.proofs.Common.{flat_map-append, filter-append, and_parts, or_parts}
use Rattle.ring_machine.specs.Common.{Path, is_cut_by, first_that, becomes, instead, stays, cut, Text, Member, Feature}
use Rattle.ring_machine.specs.Common.{FeatureOf, ItemOf, DocumentOf, Document, Open, Close, Leaf, Kept, is_leaf}
use Rattle.ring_machine.specs.Common.{empty_collection, take_out, join, joined_feature, joined_polygons, feature}
use Rattle.ring_machine.specs.Common.{in_feature, in_features, in_layer, in_rings, is_layer}
use Rattle.ring_machine.proofs.Common.{parts, cut_is, join_is, In, in_left, in_right, of_layers, none_in}
use Rattle.ring_machine.proofs.Common.{among, feature_in, feature-in_features, taken, take_out_is, new_feature}
use Rattle.grid_geometry.specs.Common.{Position}
use Rattle.edit_records.specs.Common.{Place, Begins, Ends, Text_of, Number, Tree, Alone, Places, LayerTree, number_of}
use Rattle.edit_records.specs.Common.{numbers_of, is_formed, AreFormed, numbers_placed, has_place, leaf, or_empty}
use Rattle.edit_records.specs.Common.{item_at, items_of, filled, Fills, exchanged_features, AreNumbered, exchanged}
use Rattle.edit_records.specs.Common.{with_changed, with_new, tree_with, grown}
use Rattle.edit_records.proofs.PlacesBack.{filled-agree}
use Rattle.edit_records.proofs.PlacesFilled.{AreOwn, found-filled, filled-changed}

-- ---- features by their numbers

module _ {R : Type 0} where
  pub feature-own : (d : DocumentOf R) → AreOwn (feature d)
  feature-own d n f e = (feature_in d n f e).1

  pub exchanged-own : (cs : List (ℕ × Option (FeatureOf R))) (k : ℕ → Option (FeatureOf R))
      → AreNumbered cs → AreOwn k → AreOwn (exchanged_features cs k)
  exchanged-own [] k h own n f e = own n f e
  exchanged-own (c ∷ cs) k h own n f e = by (n == c.0) refl e (exchanged-own cs k h.1 own n f)
    where
      by : (b : Bool) → (n == c.0) ≡ b → cond b c.1 (exchanged_features cs k n) ≡ Some f
          → (exchanged_features cs k n ≡ Some f → f.number ≡ n) → f.number ≡ n
      by true t e rest = h.0 f e ∙ sym (eqb-true n c.0 t)
      by false t e rest = rest e

  features-append : (bs cs : List (ℕ × Option (FeatureOf R))) (j k : ℕ → Option (FeatureOf R)) (m : ℕ)
      → j m ≡ exchanged_features cs k m
      → exchanged_features bs j m ≡ exchanged_features (bs ++ cs) k m
  features-append [] cs j k m e = e
  features-append (b ∷ bs) cs j k m e = ap (cond (m == b.0) b.1) (features-append bs cs j k m e)

  -- ---- an exchange

  module _ (trees : List LayerTree) (cs : List (ℕ × Option (FeatureOf R))) (d : DocumentOf R)
      (h : AreNumbered cs) where
    found : (m : ℕ) → feature (exchanged trees cs d) m
        ≡ cond (has_place trees m) (exchanged_features cs (feature d) m) None
    found m =
        found-filled (exchanged_features cs (feature d))
        (exchanged-own cs (feature d) h (feature-own d)) m trees

    -- a number that has a place has what it was exchanged for
    pub exchanged-feature : (m : ℕ) → has_place trees m ≡ true
        → feature (exchanged trees cs d) m ≡ exchanged_features cs (feature d) m
    exchanged-feature m e = found m ∙ ap (λ b. cond b (exchanged_features cs (feature d) m) None) e

    placed : (m : ℕ) → In m (numbers_placed trees)
        → feature (exchanged trees cs d) m ≡ exchanged_features cs (feature d) m
    placed m i = exchanged-feature m (among m (numbers_placed trees) i)

    pub exchanged-fills : Fills trees (exchanged trees cs d)
    exchanged-fills =
        filled-agree (exchanged_features cs (feature d)) (feature (exchanged trees cs d)) trees
        (λ m i. sym (placed m i))

    -- an exchange after another one: the later comes first
    pub exchanged-append : (bs : List (ℕ × Option (FeatureOf R)))
        → exchanged trees bs (exchanged trees cs d) ≡ exchanged trees (bs ++ cs) d
    exchanged-append bs =
        ap (λ z. record { transform = d.transform; layers = z; members = d.members })
        (filled-agree (exchanged_features bs (feature (exchanged trees cs d))) (exchanged_features (bs ++ cs) (feature d)) trees
        (λ m i. features-append bs cs (feature (exchanged trees cs d)) (feature d) m (placed m i)))

-- ---- other rings

module _ {R S : Type 0} (g : FeatureOf R → FeatureOf S)
    (same : (f : FeatureOf R) → (g f).number ≡ f.number) where
  features_changed : (cs : List (ℕ × Option (FeatureOf R))) (k : ℕ → Option (FeatureOf R))
      (j : ℕ → Option (FeatureOf S)) (m : ℕ) → j m ≡ option_map g (k m)
      → option_map g (exchanged_features cs k m) ≡ exchanged_features (with_changed g cs) j m
  features_changed [] k j m e = sym e
  features_changed (c ∷ cs) k j m e = by (m == c.0) (features_changed cs k j m e)
    where
      by : (b : Bool) → option_map g (exchanged_features cs k m) ≡ exchanged_features (with_changed g cs) j m
          → option_map g (cond b c.1 (exchanged_features cs k m))
          ≡ cond b (option_map g c.1) (exchanged_features (with_changed g cs) j m)
      by true e = refl
      by false e = e

  -- each feature changed after the exchange, or before it
  pub exchanged-in_features : (trees : List LayerTree) (cs : List (ℕ × Option (FeatureOf R)))
      (d : DocumentOf R)
      → in_features g (exchanged trees cs d) ≡ exchanged trees (with_changed g cs) (in_features g d)
  exchanged-in_features trees cs d =
      ap (λ z. record { transform = d.transform; layers = z; members = d.members })
      (filled-changed g (exchanged_features cs (feature d)) trees
      ∙ filled-agree (λ m. option_map g (exchanged_features cs (feature d) m))
      (exchanged_features (with_changed g cs) (feature (in_features g d))) trees
      (λ m i. features_changed cs (feature d) (feature (in_features g d)) m (feature-in_features g same d m)))

-- each ring changed after the exchange, or before it
pub exchanged-in_rings : {R S : Type 0} (g : R → S) (trees : List LayerTree)
    (cs : List (ℕ × Option (FeatureOf R))) (d : DocumentOf R)
    → in_rings g (exchanged trees cs d) ≡ exchanged trees (with_changed (in_feature g) cs) (in_rings g d)
exchanged-in_rings g trees cs d = exchanged-in_features (in_feature g) (λ f. refl) trees cs d

-- ---- taken out

module _ {R : Type 0} (n : ℕ) (k : ℕ → Option (FeatureOf R)) (own : AreOwn k) where
  abbrev left : ℕ → Option (FeatureOf R)
  left = exchanged_features ((n, None) ∷ []) k

  leaf_out : (m : ℕ) (o : Option (FeatureOf R)) → k m ≡ o
      → filter (λ i. not (is_leaf n i)) (leaf o) ≡ leaf (cond (m == n) None o)
  leaf_out m None e = by (m == n)
    where
      by : (b : Bool) → [] ≡ leaf {R = R} (cond b None None)
      by true = refl
      by false = refl
  leaf_out m (Some f) e =
      by (m == n) (ap (λ i. i == n) (own m f e))
    where
      by : (b : Bool) → (f.number == n) ≡ b
          → filter (λ i. not (is_leaf n i)) (leaf (Some f)) ≡ leaf (cond b None (Some f))
      by true t = rw t
      by false t = rw t

  alone_out : (m : ℕ) (o : Option (FeatureOf R)) → k m ≡ o
      → taken n (or_empty (leaf o)) ≡ or_empty (leaf (cond (m == n) None o))
  alone_out m None e = by (m == n)
    where
      by : (b : Bool) → taken n empty_collection ≡ or_empty (leaf {R = R} (cond b None None))
      by true = refl
      by false = refl
  alone_out m (Some f) e = by (m == n) (ap (λ i. i == n) (own m f e))
    where
      by : (b : Bool) → (f.number == n) ≡ b
          → taken n (or_empty (leaf (Some f))) ≡ or_empty (leaf (cond b None (Some f)))
      by true t = rw t
      by false t = rw t

  items_out : (ps : List Place)
      → filter (λ i. not (is_leaf n i)) (flat_map (item_at k) ps) ≡ flat_map (item_at left) ps
  items_out [] = refl
  items_out (Begins h ∷ ps) = ap (λ z. Open h ∷ z) (items_out ps)
  items_out (Ends ∷ ps) = ap (λ z. Close ∷ z) (items_out ps)
  items_out (Text_of t ∷ ps) = ap (λ z. Kept t ∷ z) (items_out ps)
  items_out (Number m ∷ ps) =
      filter-append (λ i. not (is_leaf n i)) (leaf (k m)) (flat_map (item_at k) ps)
      ∙ ap₂ (λ y z. y ++ z) (leaf_out m (k m) refl) (items_out ps)

  tree_out : (t : Tree) → is_formed t ≡ true → taken n (items_of k t) ≡ items_of left t
  tree_out (Alone m) h = alone_out m (k m) refl
  tree_out (Places []) h = absurd (false≢true h)
  tree_out (Places (Begins a ∷ ps)) h = items_out (Begins a ∷ ps)
  tree_out (Places (Text_of t ∷ ps)) h = items_out (Text_of t ∷ ps)
  tree_out (Places (Ends ∷ ps)) h = absurd (false≢true h)
  tree_out (Places (Number m ∷ ps)) h = absurd (false≢true h)

  filled_out : (trees : List LayerTree) → AreFormed trees
      → map (in_layer (taken n)) (filled k trees) ≡ filled left trees
  filled_out [] h = refl
  filled_out (l ∷ ls) h =
      let h' = and_parts (is_formed l.tree) (list_all (λ l. is_formed l.tree) ls) h in
      ap₂ (λ y z. record { name = l.name; items = y } ∷ z) (tree_out l.tree h'.0) (filled_out ls h'.1)

pub take_out-made : {R : Type 0} (trees : List LayerTree) (d : DocumentOf R) (n : ℕ)
    → Fills trees d → AreFormed trees → exchanged trees ((n, None) ∷ []) d ≡ take_out d n
take_out-made trees d n fills formed =
    ap (λ z. record { transform = d.transform; layers = z; members = d.members })
    (sym (filled_out n (feature d) (feature-own d) trees formed) ∙ ap (map (in_layer (taken n))) (sym fills))
    ∙ sym (take_out_is n d)

-- ---- one feature for another

-- the leaf of a feature, or other items
abbrev items_or : {R : Type 0} → List (ItemOf R) → Option (FeatureOf R) → List (ItemOf R)
items_or empty None = empty
items_or empty (Some f) = Leaf f ∷ []

leaf_is : {R : Type 0} (o : Option (FeatureOf R)) → leaf o ≡ items_or [] o
leaf_is None = refl
leaf_is (Some f) = refl

alone_is : {R : Type 0} (o : Option (FeatureOf R)) → or_empty (leaf o) ≡ items_or empty_collection o
alone_is None = refl
alone_is (Some f) = refl

module _ {R : Type 0} (n : ℕ) (g : FeatureOf R → List (FeatureOf R)) (f : FeatureOf R)
    (k : ℕ → Option (FeatureOf R)) (own : AreOwn k) (at : k n ≡ Some f) where
  some_same : (m : ℕ) (j : FeatureOf R) → k m ≡ Some j → (m == n) ≡ true → j ≡ f
  some_same m j e t = let same : Some j ≡ Some f = sym e ∙ ap k (eqb-true m n t) ∙ at in cc

  -- what becomes of the items at the place of m
  becomes_at : (m : ℕ) (empty : List (ItemOf R)) (o : Option (FeatureOf R)) → k m ≡ o
      → flat_map (becomes n g) empty ≡ empty
      → flat_map (becomes n g) (items_or empty o) ≡ cond (m == n) (map Leaf (g f)) (items_or empty o)
  becomes_at m empty None e stay = stay ∙ by (m == n) refl
    where
      by : (b : Bool) → (m == n) ≡ b → empty ≡ cond b (map Leaf (g f)) empty
      by true t = let none : None ≡ Some f = sym e ∙ ap k (eqb-true m n t) ∙ at in absurd cc
      by false t = refl
  becomes_at m empty (Some j) e stay =
      ap (λ i. cond (i == n) (map Leaf (g j)) (Leaf j ∷ []) ++ []) (own m j e) ∙ by (m == n) refl
    where
      by : (b : Bool) → (m == n) ≡ b
          → cond b (map Leaf (g j)) (Leaf j ∷ []) ++ [] ≡ cond b (map Leaf (g f)) (Leaf j ∷ [])
      by true t = append-nil (map Leaf (g j)) ∙ ap (λ z. map Leaf (g z)) (some_same m j e t)
      by false t = refl

  becomes_leaf : (m : ℕ)
      → flat_map (becomes n g) (leaf (k m)) ≡ cond (m == n) (map Leaf (g f)) (leaf (k m))
  becomes_leaf m =
      ap (flat_map (becomes n g)) (leaf_is (k m)) ∙ becomes_at m [] (k m) refl refl
      ∙ ap (cond (m == n) (map Leaf (g f))) (sym (leaf_is (k m)))

  becomes_alone : (m : ℕ) → flat_map (becomes n g) (or_empty (leaf (k m)))
      ≡ cond (m == n) (map Leaf (g f)) (or_empty (leaf (k m)))
  becomes_alone m =
      ap (flat_map (becomes n g)) (alone_is (k m)) ∙ becomes_at m empty_collection (k m) refl refl
      ∙ ap (cond (m == n) (map Leaf (g f))) (sym (alone_is (k m)))

  -- ---- one for it

  module _ (j : FeatureOf R) (one : g f ≡ j ∷ []) where
    abbrev with_one : ℕ → Option (FeatureOf R)
    with_one = exchanged_features ((n, Some j) ∷ []) k

    items_one : (ps : List Place)
        → flat_map (becomes n g) (flat_map (item_at k) ps) ≡ flat_map (item_at with_one) ps
    items_one [] = refl
    items_one (Begins h ∷ ps) = ap (λ z. Open h ∷ z) (items_one ps)
    items_one (Ends ∷ ps) = ap (λ z. Close ∷ z) (items_one ps)
    items_one (Text_of t ∷ ps) = ap (λ z. Kept t ∷ z) (items_one ps)
    items_one (Number m ∷ ps) =
        flat_map-append (becomes n g) (leaf (k m)) (flat_map (item_at k) ps)
        ∙ ap₂ (λ y z. y ++ z) (becomes_leaf m ∙ by (m == n)) (items_one ps)
      where
        by : (b : Bool) → cond b (map Leaf (g f)) (leaf (k m)) ≡ leaf (cond b (Some j) (k m))
        by true = ap (map Leaf) one
        by false = refl

    tree_one : (t : Tree) → flat_map (becomes n g) (items_of k t) ≡ items_of with_one t
    tree_one (Alone m) = becomes_alone m ∙ by (m == n)
      where
        by : (b : Bool)
            → cond b (map Leaf (g f)) (or_empty (leaf (k m))) ≡ or_empty (leaf (cond b (Some j) (k m)))
        by true = ap (map Leaf) one
        by false = refl
    tree_one (Places ps) = items_one ps

    filled_one : (trees : List LayerTree)
        → map (in_layer (flat_map (becomes n g))) (filled k trees) ≡ filled with_one trees
    filled_one [] = refl
    filled_one (l ∷ ls) =
        ap₂ (λ y z. record { name = l.name; items = y } ∷ z) (tree_one l.tree) (filled_one ls)

  -- ---- two for it

  module _ (i j : FeatureOf R) (two : g f ≡ i ∷ j ∷ []) (new : ℕ) (other : (new == n) ≡ false) where
    abbrev with_two : ℕ → Option (FeatureOf R)
    with_two = exchanged_features ((n, Some i) ∷ (new, Some j) ∷ []) k

    -- none of these numbers is the new one
    abbrev Lack : List ℕ → Type 0
    Lack ns = (m : ℕ) → In m ns → (m == new) ≡ false

    at_old : with_two n ≡ Some i
    at_old = ap (λ b. cond b (Some i) (cond (n == new) (Some j) (k n))) (eq-eqb n n refl)

    at_new : with_two new ≡ Some j
    at_new =
        ap₂ (λ b c. cond b (Some i) (cond c (Some j) (k new))) other (eq-eqb new new refl)

    place_two : (m : ℕ) → (m == new) ≡ false
        → cond (m == n) (map Leaf (g f)) (leaf (k m)) ≡ flat_map (item_at with_two) (with_new n new (Number m))
    place_two m apart = by (m == n) refl
      where
        by : (b : Bool) → (m == n) ≡ b → cond b (map Leaf (g f)) (leaf (k m))
            ≡ flat_map (item_at with_two) (cond b (Number n ∷ Number new ∷ []) (Number m ∷ []))
        by true t = ap (map Leaf) two ∙ sym (ap₂ (λ y z. leaf y ++ (leaf z ++ [])) at_old at_new)
        by false t =
            sym (append-nil (leaf (k m)))
            ∙ sym (ap₂ (λ b c. leaf (cond b (Some i) (cond c (Some j) (k m))) ++ []) t apart)

    items_two : (ps : List Place) → Lack (flat_map number_of ps)
        → flat_map (becomes n g) (flat_map (item_at k) ps)
        ≡ flat_map (item_at with_two) (flat_map (with_new n new) ps)
    items_two [] h = refl
    items_two (Begins a ∷ ps) h = ap (λ z. Open a ∷ z) (items_two ps h)
    items_two (Ends ∷ ps) h = ap (λ z. Close ∷ z) (items_two ps h)
    items_two (Text_of t ∷ ps) h = ap (λ z. Kept t ∷ z) (items_two ps h)
    items_two (Number m ∷ ps) h =
        flat_map-append (becomes n g) (leaf (k m)) (flat_map (item_at k) ps)
        ∙ ap₂ (λ y z. y ++ z) (becomes_leaf m ∙ place_two m (h m (inl refl))) (items_two ps (λ l w. h l (inr w)))
        ∙ sym (flat_map-append (item_at with_two) (with_new n new (Number m)) (flat_map (with_new n new) ps))

    -- a layer that is the feature itself is no collection
    tree_two : (t : Option Text) (ms : List Member) (name : Text) (tree : Tree) → Lack (numbers_of tree)
        → is_layer (record {
          transform = t;
          layers = record { name = name; items = items_of k tree } ∷ [];
          members = ms;
        }) n ≡ false
        → flat_map (becomes n g) (items_of k tree) ≡ items_of with_two (tree_with n new tree)
    tree_two t ms name (Places ps) h collected = items_two ps h
    tree_two t ms name (Alone m) h collected = becomes_alone m ∙ by (m == n) refl
      where
        alone : (m == n) ≡ true → ⊥
        alone e =
            let there : k m ≡ Some f = ap k (eqb-true m n e) ∙ at in
            let is : (f.number == n) ≡ false =
            (or_parts (f.number == n) false (sym (ap (λ o. is_layer (record {
              transform = t;
              layers = record { name = name; items = or_empty (leaf o) } ∷ [];
              members = ms;
            }) n) there) ∙ collected)).0 in
            false≢true (sym is ∙ eq-eqb f.number n (own n f at))

        by : (b : Bool) → (m == n) ≡ b → cond b (map Leaf (g f)) (or_empty (leaf (k m)))
            ≡ or_empty (leaf (with_two m))
        by true e = absurd (alone e)
        by false e =
            sym (ap₂ (λ b c. or_empty (leaf (cond b (Some i) (cond c (Some j) (k m))))) e (h m (inl refl)))

    filled_two : (t : Option Text) (ms : List Member) (trees : List LayerTree) → Lack (numbers_placed trees)
        → is_layer (record { transform = t; layers = filled k trees; members = ms }) n ≡ false
        → map (in_layer (flat_map (becomes n g))) (filled k trees) ≡ filled with_two (grown n new trees)
    filled_two t ms [] h collected = refl
    filled_two t ms (l ∷ ls) h collected =
        let c = or_parts _ _ collected in
        ap₂ (λ y z. record { name = l.name; items = y } ∷ z)
        (tree_two t ms l.name l.tree (λ m w. h m (in_left m (numbers_of l.tree) (numbers_placed ls) w)) (ap (λ b. b || false) c.0))
        (filled_two t ms ls (λ m w. h m (in_right m (numbers_of l.tree) (numbers_placed ls) w)) c.1)

module _ {R : Type 0} (trees : List LayerTree) (d : DocumentOf R) (fills : Fills trees d) where
  -- a number without a place is no feature's
  pub fills-nowhere : (m : ℕ) → has_place trees m ≡ false → feature d m ≡ None
  fills-nowhere m e =
      ap (λ ls. find (λ f. f.number == m) (of_layers ls)) fills
      ∙ found-filled (feature d) (feature-own d) m trees
      ∙ ap (λ b. cond b (feature d m) None) e

  module _ (n : ℕ) (g : FeatureOf R → List (FeatureOf R)) (f : FeatureOf R) (at : feature d n ≡ Some f) where
    -- one feature in the place of another
    pub instead-made : (j : FeatureOf R) → g f ≡ j ∷ []
        → exchanged trees ((n, Some j) ∷ []) d ≡ instead n g d
    instead-made j one =
        ap (λ z. record { transform = d.transform; layers = z; members = d.members })
        (sym (filled_one n g f (feature d) (feature-own d) at j one trees)
        ∙ ap (map (in_layer (flat_map (becomes n g)))) (sym fills))

    -- two features in the place of one that stands in a collection
    pub instead-grown : (i j : FeatureOf R) (new : ℕ) → g f ≡ i ∷ j ∷ [] → is_layer d n ≡ false
        → has_place trees new ≡ false
        → exchanged (grown n new trees) ((n, Some i) ∷ (new, Some j) ∷ []) d ≡ instead n g d
    instead-grown i j new two collected free =
        ap (λ z. record { transform = d.transform; layers = z; members = d.members })
        (sym (filled_two n g f (feature d) (feature-own d) at i j two new other d.transform d.members trees
        (λ m w. none_in (λ l. l == new) (numbers_placed trees) m free w)
        (ap (λ z. is_layer (record { transform = d.transform; layers = z; members = d.members }) n) (sym fills) ∙ collected))
        ∙ ap (map (in_layer (flat_map (becomes n g)))) (sym fills))
      where
        other : (new == n) ≡ false
        other = by (new == n) refl
          where
            by : (b : Bool) → (new == n) ≡ b → b ≡ false
            by false t = refl
            by true t =
                let none : None ≡ Some f = sym (fills-nowhere new free) ∙ ap (feature d) (eqb-true new n t) ∙ at in
                absurd cc

-- ---- split and merged

pub cut-made : (trees : List LayerTree) (d : Document) (n : ℕ) (id : Text) (path : Path) (new : ℕ)
    (f : Feature) (p : List (List Position)) → Fills trees d → feature d n ≡ Some f
    → first_that (is_cut_by path) f.polygons ≡ p ∷ [] → is_layer d n ≡ false
    → has_place trees new ≡ false
    → cut d n id path new
    ≡ exchanged (grown n new trees) ((n, Some (stays path f)) ∷ (new, Some (new_feature path new id f p)) ∷ []) d
cut-made trees d n id path new f p fills at one collected free =
    cut_is d n id path new
    ∙ sym (instead-grown trees d fills n (parts d n id path new) f at (stays path f) (new_feature path new id f p) new
    (ap (λ ps. stays path f ∷ map (new_feature path new id f) ps) one) collected free)

pub join-made : (trees : List LayerTree) (d : Document) (n : ℕ) (f g : Feature) → Fills trees d
    → AreFormed trees → feature d n ≡ Some f → n ≢ g.number
    → exchanged trees
    ((n, Some (record f { polygons = joined_polygons f.polygons g.polygons })) ∷ (g.number, None) ∷ []) d
    ≡ join d n g
join-made trees d n f g fills formed at apart =
    ap (λ z. record { transform = d.transform; layers = z; members = d.members })
    (filled-agree (exchanged_features ((n, Some j) ∷ (g.number, None) ∷ []) (feature d))
    (exchanged_features ((g.number, None) ∷ (n, Some j) ∷ []) (feature d)) trees (λ m i. turned_pairs m (feature d m)))
    ∙ sym (exchanged-append trees ((n, Some j) ∷ []) d numbered ((g.number, None) ∷ []))
    ∙ take_out-made trees (exchanged trees ((n, Some j) ∷ []) d) g.number
    (exchanged-fills trees ((n, Some j) ∷ []) d numbered) formed
    ∙ ap (λ e. take_out e g.number) (instead-made trees d fills n (joined_feature g) f at j refl)
    ∙ sym (join_is d n g)
  where
    j : Feature
    j = record f { polygons = joined_polygons f.polygons g.polygons }

    numbered : AreNumbered ((n, Some j) ∷ [])
    numbered = ((λ k e. ap (λ (o : Option Feature). number_in o) (sym e) ∙ feature-own d n f at), tt)
      where
        number_in : Option Feature → ℕ
        number_in (Some k) = k.number
        number_in None = n

    turned_pairs : (m : ℕ) (o : Option Feature)
        → cond (m == n) (Some j) (cond (m == g.number) None o)
        ≡ cond (m == g.number) None (cond (m == n) (Some j) o)
    turned_pairs m o = by (m == n) (m == g.number) refl refl
      where
        by : (b c : Bool) → (m == n) ≡ b → (m == g.number) ≡ c
            → cond b (Some j) (cond c None o) ≡ cond c None (cond b (Some j) o)
        by true true s t = absurd (apart (sym (eqb-true m n s) ∙ eqb-true m g.number t))
        by true false s t = refl
        by false c s t = refl
