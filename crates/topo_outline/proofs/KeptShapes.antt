-- A document in which others stand in the place of a feature, or none, keeps its texts.
use Rattle.kit_words.proofs.Common.{◌≡◌, ℕ, Bool, true, false, not, ◌==◌, List, [], ◌∷◌, ◌++◌, map, Some, suc, length}
use Rattle.kit_words.proofs.Common.{refl, sym, ap, ◌∙◌, subst, cond, inl, inr, arith, eqb-true, AllByRecursion, AllZip}
use Rattle.kit_words.proofs.Common.{filter, flat_map, filter_map}
use Rattle.grid_geometry.specs.Common.{Position}
use Rattle.ring_machine.specs.Common.{FeatureOf, ItemOf, LayerOf, DocumentOf, Open, Close, Leaf, Kept, Feature}
use Rattle.ring_machine.specs.Common.{Document, Form, Text, feature_of, features, in_layer, in_items, Path, is_cut_by}
use Rattle.ring_machine.specs.Common.{first_that, becomes, instead, cut, is_leaf, empty_collection, take_out}
use Rattle.ring_machine.specs.Common.{joined_feature, join, renamed, fits_form, WellFormed}
use Rattle.ring_machine.specs.Document as form
use Rattle.ring_machine.proofs.Common.{In, in_left, in_right, all_in, of_layers, taken, take_out_is, renamed_is}
use Rattle.ring_machine.proofs.Common.{parts, cut_is, join_is, new_feature}
use Rattle.topo_outline.specs.declared.members.Owner.TheVariants as owner
use Rattle.topo_outline.specs.Common.{IsJson, IsName, AreKeptMembers, owner_of, KeepsItem, KeepsTexts}

-- the items of each layer are ones that opening would keep
abbrev KeepsLayers : {R : Type 0} → List (LayerOf R) → Type 0
KeepsLayers ls = AllByRecursion (λ l. AllByRecursion KeepsItem l.items) ls

-- the names of the layers stand for these texts
abbrev AreNamed : {R : Type 0} → List (LayerOf R) → List (List ℕ) → Type 0
AreNamed ls names = AllZip (λ l t. IsName l.name t) ls names

-- the features' texts are ones that opening would keep
abbrev pub KeepsFeatures : {R : Type 0} → List (FeatureOf R) → Type 0
KeepsFeatures fs = AllByRecursion (λ f. KeepsItem (Leaf f)) fs

-- ---- items changed layer by layer

module _ {R S : Type 0} (k : List (ItemOf R) → List (ItemOf S)) where
  named_keep : (ls : List (LayerOf R)) (names : List (List ℕ)) → AreNamed ls names
      → AreNamed (map (in_layer k) ls) names
  named_keep [] [] h = tt
  named_keep [] (t ∷ names) h = absurd h
  named_keep (l ∷ ls) [] h = absurd h
  named_keep (l ∷ ls) (t ∷ names) h = (h.0, named_keep ls names h.1)

  -- a document keeps its texts where its items keep theirs
  pub keeps-in_items : (d : DocumentOf R) → KeepsTexts d → KeepsLayers (map (in_layer k) d.layers)
      → KeepsTexts (in_items k d)
  keeps-in_items d h items = record {
    transform = h.transform;
    layer_names = h.layer_names;
    layers_named = named_keep d.layers h.layer_names h.layers_named;
    layers_differ = h.layers_differ;
    items = items;
    members = h.members;
  }

-- ---- a feature taken out

no_members : (o : _) → AreKeptMembers o []
no_members o = record { names = []; each = tt; differ = λ i j e l m. absurd (omega arith) }

empty_keeps : (R : Type 0) → AllByRecursion KeepsItem (empty_collection {R = R})
empty_keeps R =
    (record { id = tt; properties = tt; members = no_members owner.Collection }, (tt, tt))

module _ {R : Type 0} (n : ℕ) where
  filtered_keeps : (is : List (ItemOf R)) → AllByRecursion KeepsItem is
      → AllByRecursion KeepsItem (filter (λ i. not (is_leaf n i)) is)
  filtered_keeps [] h = tt
  filtered_keeps (Open head ∷ is) h = (h.0, filtered_keeps is h.1)
  filtered_keeps (Close ∷ is) h = (tt, filtered_keeps is h.1)
  filtered_keeps (Kept t ∷ is) h = (h.0, filtered_keeps is h.1)
  filtered_keeps (Leaf f ∷ is) h = grind (arith, filtered_keeps is h.1)

  taken_keeps : (is : List (ItemOf R)) → AllByRecursion KeepsItem is
      → AllByRecursion KeepsItem (taken n is)
  taken_keeps [] h = tt
  taken_keeps (Leaf f ∷ []) h = by (f.number == n)
    where
      by : (b : Bool) → AllByRecursion KeepsItem (cond b (empty_collection {R = R}) (Leaf f ∷ []))
      by true = empty_keeps R
      by false = h
  taken_keeps (i ∷ is) h = filtered_keeps (i ∷ is) h

  layers_taken_keep : (ls : List (LayerOf R)) → KeepsLayers ls → KeepsLayers (map (in_layer (taken n)) ls)
  layers_taken_keep [] h = tt
  layers_taken_keep (l ∷ ls) h = (taken_keeps l.items h.0, layers_taken_keep ls h.1)

pub keeps-take_out : {R : Type 0} (d : DocumentOf R) (n : ℕ) → KeepsTexts d → KeepsTexts (take_out d n)
keeps-take_out d n h =
    subst KeepsTexts (sym (take_out_is n d)) (keeps-in_items (taken n) d h (layers_taken_keep n d.layers h.items))

-- ---- others in the place of a feature

module _ {R : Type 0} (n : ℕ) (g : FeatureOf R → List (FeatureOf R)) where
  -- what stands in the place of those of the number n keeps texts as they do
  abbrev pub StandsKept : List (FeatureOf R) → Type 0
  StandsKept fs = (f : FeatureOf R) → In f fs → f.number ≡ n → KeepsItem (Leaf f) → KeepsFeatures (g f)

  leaves_keep : (fs : List (FeatureOf R)) (is : List (ItemOf R)) → KeepsFeatures fs
      → AllByRecursion KeepsItem is → AllByRecursion KeepsItem (map Leaf fs ++ is)
  leaves_keep [] is h k = k
  leaves_keep (f ∷ fs) is h k = (h.0, leaves_keep fs is h.1 k)

  items_become : (is : List (ItemOf R)) → StandsKept (filter_map feature_of is)
      → AllByRecursion KeepsItem is → AllByRecursion KeepsItem (flat_map (becomes n g) is)
  items_become [] a h = tt
  items_become (Open head ∷ is) a h = (h.0, items_become is a h.1)
  items_become (Close ∷ is) a h = (tt, items_become is a h.1)
  items_become (Kept t ∷ is) a h = (h.0, items_become is a h.1)
  items_become (Leaf f ∷ is) a h = by (f.number == n) refl (items_become is (λ k i. a k (inr i)) h.1)
    where
      by : (b : Bool) → (f.number == n) ≡ b → AllByRecursion KeepsItem (flat_map (becomes n g) is)
          → AllByRecursion KeepsItem (cond b (map Leaf (g f)) (Leaf f ∷ []) ++ flat_map (becomes n g) is)
      by true e k = leaves_keep (g f) (flat_map (becomes n g) is) (a f (inl refl) (eqb-true f.number n e) h.0) k
      by false e k = (h.0, k)

  layers_become : (ls : List (LayerOf R)) → StandsKept (of_layers ls) → KeepsLayers ls
      → KeepsLayers (map (in_layer (flat_map (becomes n g))) ls)
  layers_become [] a h = tt
  layers_become (l ∷ ls) a h = (
    items_become l.items (λ f i. a f (in_left f (filter_map feature_of l.items) (of_layers ls) i)) h.0,
    layers_become ls (λ f i. a f (in_right f (filter_map feature_of l.items) (of_layers ls) i)) h.1,
  )

  pub keeps-instead : (d : DocumentOf R) → KeepsTexts d → StandsKept (features d)
      → KeepsTexts (instead n g d)
  keeps-instead d h a = keeps-in_items (flat_map (becomes n g)) d h (layers_become d.layers a h.items)

-- ---- another id

pub keeps-renamed : {R : Type 0} (d : DocumentOf R) (n : ℕ) (id : Text) → IsJson id → KeepsTexts d
    → KeepsTexts (renamed d n id)
keeps-renamed d n id j h =
    subst KeepsTexts (sym (renamed_is n id d))
    (keeps-instead n (λ f. record f { id = Some id } ∷ []) d h
    (λ f i e k. (record { id = j; properties = k.properties; members = k.members }, tt)))

-- ---- a feature cut, and two joined

-- a form that has polygons has those of rings as its members
rings_owner : {R : Type 0} (f : FeatureOf R) (p : List R) (ps : List (List R)) → f.polygons ≡ p ∷ ps
    → fits_form f ≡ true → owner_of f.form ≡ owner.Rings
rings_owner f p ps e h = by f.form (ap (λ z. fits_form (record f { polygons = z })) (sym e) ∙ h)
  where
    by : (kind : Form) → fits_form (record f { form = kind; polygons = p ∷ ps }) ≡ true
        → owner_of kind ≡ owner.Rings
    by form.Polygon k = refl
    by form.MultiPolygon k = refl
    by form.Null k = absurd (omega (arith, eqb-true (suc (length ps)) 0 k))

pub keeps-cut : (d : Document) (n : ℕ) (id : Text) (path : Path) (number : ℕ) → WellFormed d
    → IsJson id → KeepsTexts d → KeepsTexts (cut d n id path number)
keeps-cut d n id path number formed j h =
    subst KeepsTexts (sym (cut_is d n id path number))
    (keeps-instead n (parts d n id path number) d h (λ f i e k.
    (k, of f k (all_in fits_form (features d) f formed.forms i) f.polygons refl)))
  where
    new_keeps : (f : Feature) → KeepsItem (Leaf f) → owner_of f.form ≡ owner.Rings
        → (ps : List (List (List Position))) → KeepsFeatures (map (new_feature path number id f) ps)
    new_keeps f k o [] = tt
    new_keeps f k o (p ∷ ps) = (
      record { id = j; properties = k.properties; members = subst (λ w. AreKeptMembers w f.members) o k.members },
      new_keeps f k o ps,
    )

    of : (f : Feature) → KeepsItem (Leaf f) → fits_form f ≡ true → (ps : List (List (List Position)))
        → f.polygons ≡ ps → KeepsFeatures (map (new_feature path number id f) (first_that (is_cut_by path) ps))
    of f k t [] e = tt
    of f k t (p ∷ ps) e = new_keeps f k (rings_owner f p ps e t) (first_that (is_cut_by path) (p ∷ ps))

pub keeps-join : (d : Document) (n : ℕ) (g : Feature) → KeepsTexts d → KeepsTexts (join d n g)
keeps-join d n g h =
    subst KeepsTexts (sym (join_is d n g))
    (keeps-take_out (instead n (joined_feature g) d) g.number
    (keeps-instead n (joined_feature g) d h (λ f i e k. (k, tt))))
