-- A feature replaced or taken out while the rings of the document are read anew: only the rings of
-- the other features have to be what they were.
use Rattle.kit_words.proofs.Common.{◌≡◌, ℕ, Bool, true, false, refl, sym, ap, ap₂, ◌∙◌, cond, List, [], ◌∷◌, ◌++◌, map}
use Rattle.kit_words.proofs.Common.{◌||◌, inl, inr, ◌==◌, not, filter, filter_map, flat_map, list_any, list_all}
use Rattle.kit_words.proofs.Common.{false≢true, filter-append, append-nil, and_parts}
use Rattle.std.proofs.lemmas.Bool.{eqb-true}
use Rattle.ring_machine.specs.Common.{FeatureOf, ItemOf, LayerOf, DocumentOf, Document, Feature, Open, Close, Leaf}
use Rattle.ring_machine.specs.Common.{Kept, feature_of, features, rings_of, in_feature, in_layer, becomes, instead}
use Rattle.ring_machine.specs.Common.{is_leaf, empty_collection, take_out, joined_feature, join, is_geometry}
use Rattle.ring_machine.specs.Common.{WellFormed}
use Rattle.ring_machine.proofs.First.{In, in_left, in_right}
use Rattle.ring_machine.proofs.InItems.{of_layers}
use Rattle.ring_machine.proofs.TakenOut.{taken, take_out_is, filtered_none, taken_none}
use Rattle.ring_machine.proofs.Instead.{features_leaves}
use Rattle.ring_machine.proofs.CutJoined.{join_is}

module _ {R S : Type 0} (h h' : R → S) where
  -- ---- one feature

  rings_agree : (rs : List R) → ((r : R) → In r rs → h' r ≡ h r) → map h' rs ≡ map h rs
  rings_agree [] a = refl
  rings_agree (r ∷ rs) a = ap₂ (λ y z. y ∷ z) (a r (inl refl)) (rings_agree rs (λ q i. a q (inr i)))

  polygons_agree : (ps : List (List R)) → ((r : R) → In r (flat_map (λ p. p) ps) → h' r ≡ h r)
      → map (map h') ps ≡ map (map h) ps
  polygons_agree [] a = refl
  polygons_agree (p ∷ ps) a =
      ap₂ (λ y z. y ∷ z) (rings_agree p (λ r i. a r (in_left r p (flat_map (λ q. q) ps) i)))
      (polygons_agree ps (λ r i. a r (in_right r p (flat_map (λ q. q) ps) i)))

  -- a feature whose rings stay stays
  pub in_feature-agrees : (f : FeatureOf R) → ((r : R) → In r (rings_of f) → h' r ≡ h r)
      → in_feature h' f ≡ in_feature h f
  in_feature-agrees f a =
      ap (λ ps. record { number = f.number; id = f.id; form = f.form; properties = f.properties; members = f.members; polygons = ps }) (polygons_agree f.polygons a)

-- ---- in either order

module _ {R : Type 0} (n m : ℕ) (g : FeatureOf R → List (FeatureOf R)) (differ : (n == m) ≡ false) where
  -- what stands for the features of the number n does not have the number m
  abbrev pub Lack : List (FeatureOf R) → Type 0
  Lack fs = (f : FeatureOf R) → In f fs → f.number ≡ n → list_any (λ k. k.number == m) (g f) ≡ false

  leaves_lack : (fs : List (FeatureOf R)) → list_any (λ k. k.number == m) fs ≡ false
      → filter (λ i. not (is_leaf m i)) (map Leaf fs) ≡ map Leaf fs
  leaves_lack fs h = filtered_none m (map Leaf fs) (ap (list_any (λ k. k.number == m)) (features_leaves fs) ∙ h)

  filtered_becomes : (is : List (ItemOf R)) → Lack (filter_map feature_of is)
      → filter (λ i. not (is_leaf m i)) (flat_map (becomes n g) is)
      ≡ flat_map (becomes n g) (filter (λ i. not (is_leaf m i)) is)
  filtered_becomes [] a = refl
  filtered_becomes (Open b ∷ is) a = ap (λ z. Open b ∷ z) (filtered_becomes is a)
  filtered_becomes (Close ∷ is) a = ap (λ z. Close ∷ z) (filtered_becomes is a)
  filtered_becomes (Kept t ∷ is) a = ap (λ z. Kept t ∷ z) (filtered_becomes is a)
  filtered_becomes (Leaf f ∷ is) a =
      filter-append (λ i. not (is_leaf m i)) (becomes n g (Leaf f)) (flat_map (becomes n g) is)
      ∙ ap (λ z. filter (λ i. not (is_leaf m i)) (becomes n g (Leaf f)) ++ z) (filtered_becomes is (λ k i. a k (inr i)))
      ∙ by (f.number == n) (f.number == m) refl refl
    where
      rest : List (ItemOf R)
      rest = flat_map (becomes n g) (filter (λ i. not (is_leaf m i)) is)

      by : (b c : Bool) → (f.number == n) ≡ b → (f.number == m) ≡ c
          → filter (λ i. not (is_leaf m i)) (cond b (map Leaf (g f)) (Leaf f ∷ [])) ++ rest
          ≡ flat_map (becomes n g) (cond (not c) (Leaf f ∷ filter (λ i. not (is_leaf m i)) is) (filter (λ i. not (is_leaf m i)) is))
      by true true e k =
          absurd (false≢true (sym differ ∙ ap (λ j. j == m) (sym (eqb-true f.number n e)) ∙ k))
      by true false e k =
          ap (λ z. z ++ rest) (leaves_lack (g f) (a f (inl refl) (eqb-true f.number n e)))
          ∙ ap (λ b. cond b (map Leaf (g f)) (Leaf f ∷ []) ++ rest) (sym e)
      by false true e k = ap (λ c. cond (not c) (Leaf f ∷ []) [] ++ rest) k
      by false false e k =
          ap (λ c. cond (not c) (Leaf f ∷ []) [] ++ rest) k
          ∙ ap (λ b. cond b (map Leaf (g f)) (Leaf f ∷ []) ++ rest) (sym e)

  taken_leaves : (fs : List (FeatureOf R)) → list_any (λ k. k.number == m) fs ≡ false
      → taken m (map Leaf fs ++ []) ≡ map Leaf fs ++ []
  taken_leaves fs h =
      taken_none m (map Leaf fs ++ [])
      (ap (λ is. list_any (λ k. k.number == m) (filter_map feature_of is)) (append-nil (map Leaf fs))
      ∙ ap (list_any (λ k. k.number == m)) (features_leaves fs) ∙ h)

  taken_becomes : (is : List (ItemOf R)) → is_geometry is ≡ true → Lack (filter_map feature_of is)
      → taken m (flat_map (becomes n g) is) ≡ flat_map (becomes n g) (taken m is)
  taken_becomes [] h a = refl
  taken_becomes (Open b ∷ is) h a = filtered_becomes (Open b ∷ is) a
  taken_becomes (Close ∷ is) h a = filtered_becomes (Close ∷ is) a
  taken_becomes (Kept t ∷ is) h a = filtered_becomes (Kept t ∷ is) a
  taken_becomes (Leaf f ∷ i ∷ is) h a = absurd (false≢true h)
  taken_becomes (Leaf f ∷ []) h a = by (f.number == n) (f.number == m) refl refl
    where
      by : (b c : Bool) → (f.number == n) ≡ b → (f.number == m) ≡ c
          → taken m (cond b (map Leaf (g f)) (Leaf f ∷ []) ++ [])
          ≡ flat_map (becomes n g) (cond c empty_collection (Leaf f ∷ []))
      by true true e k =
          absurd (false≢true (sym differ ∙ ap (λ j. j == m) (sym (eqb-true f.number n e)) ∙ k))
      by true false e k =
          taken_leaves (g f) (a f (inl refl) (eqb-true f.number n e))
          ∙ ap (λ b. cond b (map Leaf (g f)) (Leaf f ∷ []) ++ []) (sym e)
      by false true e k = ap (λ c. cond c empty_collection (Leaf f ∷ [])) k
      by false false e k =
          ap (λ c. cond c empty_collection (Leaf f ∷ [])) k
          ∙ ap (λ b. cond b (map Leaf (g f)) (Leaf f ∷ []) ++ []) (sym e)

  layers_taken_become : (ls : List (LayerOf R)) → list_all (λ l. is_geometry l.items) ls ≡ true
      → Lack (of_layers ls)
      → map (in_layer (taken m)) (map (in_layer (flat_map (becomes n g))) ls)
      ≡ map (in_layer (flat_map (becomes n g))) (map (in_layer (taken m)) ls)
  layers_taken_become [] h a = refl
  layers_taken_become (l ∷ ls) h a =
      let h' = and_parts (is_geometry l.items) (list_all (λ k. is_geometry k.items) ls) h in
      ap₂ (λ y z. record { name = l.name; items = y } ∷ z)
      (taken_becomes l.items h'.0 (λ f i. a f (in_left f (filter_map feature_of l.items) (of_layers ls) i)))
      (layers_taken_become ls h'.1 (λ f i. a f (in_right f (filter_map feature_of l.items) (of_layers ls) i)))

  -- one feature is taken out before or after another is replaced
  pub take_out-instead : (d : DocumentOf R) → WellFormed d → Lack (features d)
      → take_out (instead n g d) m ≡ instead n g (take_out d m)
  take_out-instead d formed a =
      take_out_is m (instead n g d)
      ∙ ap (λ z. record { transform = d.transform; layers = z; members = d.members }) (layers_taken_become d.layers formed.geometries a)
      ∙ ap (instead n g) (sym (take_out_is m d))

-- ---- one replaced and another taken out

-- the second feature may be taken out before they are joined
pub join_order : (d : Document) (n : ℕ) (g : Feature) → WellFormed d → (n == g.number) ≡ false
    → join d n g ≡ instead n (joined_feature g) (take_out d g.number)
join_order d n g formed o =
    join_is d n g
    ∙ take_out-instead n g.number (joined_feature g) o d formed
    (λ f i e. ap (λ j. (j == g.number) || false) e ∙ ap (λ b. b || false) o)
