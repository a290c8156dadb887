-- The items of a layer as they are shown are those of the document.
use Rattle.kit_words.proofs.Common.{◌≡◌, ℕ, Bool, true, false, refl, sym, ap, ◌∙◌, subst, List, [], ◌∷◌, ◌++◌, map}
use Rattle.kit_words.proofs.Common.{arith, Some, inl, inr, ◌==◌, Contains, unwrap_or, filter_map, find, list_any}
use Rattle.kit_words.proofs.Common.{map-id, map-map, nat_tests}
use Rattle.ring_machine.specs.Common.{Document, Feature, Item, ItemOf, Head, Open, Close, Leaf, Kept, Layer, feature}
use Rattle.ring_machine.specs.Common.{feature_of, features, WellFormed, are_distinct, is_geometry}
use Rattle.ring_machine.proofs.Common.{In, all_in, in-flat_map, contains_in, map_there}
use Rattle.map_frame.specs.Common.{ShownItem, Opens, Closes, Stands, Keeps, shown_item}
use Rattle.topo_writer.specs.Common.{bare, item_at, written_item, written_at, feature_or_bare, IsThere, ShowsLayer, is_begin}
use Rattle.topo_writer.specs.Common.{open_after, more_after}
use Rattle.topo_writer.proofs.OpenedLemmas.{geometry_begins}

-- ---- a feature is the one with its number

-- the number of a feature of these is one of their numbers
number_in : (fs : List Feature) (f : Feature) → In f fs → list_any (λ m. m == f.number) (map (λ g. g.number) fs) ≡ true
number_in [] f i = absurd i
number_in (g ∷ fs) f i = grind (arith, nat_tests, number_in fs f)

found_own : (fs : List Feature) (f : Feature) → are_distinct (map (λ g. g.number) fs) ≡ true → In f fs
    → find (λ g. g.number == f.number) fs ≡ Some f
found_own [] f d i = absurd i
found_own (g ∷ fs) f d i = grind (arith, nat_tests, found_own fs f, number_in fs f)

leaf_in : (items : List Item) (f : Feature) → In (Leaf f) items → In f (filter_map feature_of items)
leaf_in [] f i = absurd i
leaf_in (x ∷ items) f (inl e) = subst (λ z. In f (filter_map feature_of (z ∷ items))) (sym e) (inl refl)
leaf_in (Open h ∷ items) f (inr i) = leaf_in items f i
leaf_in (Close ∷ items) f (inr i) = leaf_in items f i
leaf_in (Leaf g ∷ items) f (inr i) = inr (leaf_in items f i)
leaf_in (Kept t ∷ items) f (inr i) = leaf_in items f i

module _ (d : Document) (formed : WellFormed d) (layer : Layer) (there : Contains d.layers layer) where
  -- the feature of a leaf is the one with its number
  pub leaf_feature : (f : Feature) → In (Leaf f) layer.items → feature d f.number ≡ Some f
  leaf_feature f i =
      found_own (features d) f formed.numbers
      (in-flat_map (λ l. filter_map feature_of l.items) layer f d.layers (contains_in d.layers layer there) (leaf_in layer.items f i))

  item_back : (i : Item) → In i layer.items → item_at d (shown_item i) ≡ i
  item_back (Open h) i = refl
  item_back Close i = refl
  item_back (Leaf f) i = ap (λ o. Leaf (unwrap_or o (bare f.number))) (leaf_feature f i)
  item_back (Kept t) i = refl

  pub items_back : map (item_at d) (map shown_item layer.items) ≡ layer.items
  items_back = map-map (item_at d) shown_item layer.items ∙ map_there (λ i. item_at d (shown_item i)) (λ i. i) layer.items item_back ∙ map-id layer.items

-- ---- the items of a layer are a geometry

begin_written : (d : Document) (heads : List Head) (items : List Item) → is_begin heads (map (written_item d) items) ≡ is_begin heads items
begin_written d heads [] = refl
begin_written d heads (Open h ∷ items) = begin_written d (h ∷ heads) items
begin_written d [] (Close ∷ items) = refl
begin_written d (h ∷ heads) (Close ∷ items) = begin_written d heads items
begin_written d heads (Leaf f ∷ items) = begin_written d heads items
begin_written d heads (Kept t ∷ items) = begin_written d heads items

-- the items of a layer as they are written
pub written_layer : (d : Document) → WellFormed d → (layer : Layer) → Contains d.layers layer
    → map (written_at d) (map shown_item layer.items) ≡ map (written_item d) layer.items
written_layer d formed layer there =
    sym (map-map (written_item d) (item_at d) (map shown_item layer.items)) ∙ ap (map (written_item d)) (items_back d formed layer there)

pub written_begins : (d : Document) → WellFormed d → (items : List ShownItem) → ShowsLayer d items → is_begin [] (map (written_at d) items) ≡ true
written_begins d formed items s =
    ap (λ z. is_begin [] (map (written_at d) z)) s.shows ∙ ap (is_begin []) (written_layer d formed s.layer s.there)
    ∙ begin_written d [] s.layer.items
    ∙ geometry_begins s.layer.items (all_in (λ l. is_geometry l.items) d.layers s.layer formed.geometries (contains_in d.layers s.layer s.there))

stands_there : (d : Document) → WellFormed d → (items : List ShownItem) → ShowsLayer d items → (n : ℕ) → In (Stands n) items
    → feature d n ≡ Some (feature_or_bare d n)
stands_there d formed items s n i = go s.layer.items (λ f k. leaf_feature d formed s.layer s.there f k) (subst (In (Stands n)) s.shows i)
  where
    known : (f : Feature) → feature d f.number ≡ Some f → feature d f.number ≡ Some (feature_or_bare d f.number)
    known f e = e ∙ ap (λ o. Some (unwrap_or o (bare f.number))) (sym e)

    go : (xs : List Item) → ((f : Feature) → In (Leaf f) xs → feature d f.number ≡ Some f) → In (Stands n) (map shown_item xs) → feature d n ≡ Some (feature_or_bare d n)
    go [] h k = absurd k
    go (Open o ∷ xs) h (inl e) = absurd cc
    go (Close ∷ xs) h (inl e) = absurd cc
    go (Leaf f ∷ xs) h (inl e) =
        let same : f.number ≡ n = cc in
        subst (λ m. feature d m ≡ Some (feature_or_bare d m)) same (known f (h f (inl refl)))
    go (Kept t ∷ xs) h (inl e) = absurd cc
    go (x ∷ xs) h (inr k) = go xs (λ f m. h f (inr m)) k

-- what is shown in a layer is there
pub shown_there : (d : Document) → WellFormed d → (items : List ShownItem) → ShowsLayer d items → (s : ShownItem) → In s items → IsThere d s
shown_there d formed items shows (Opens h) i = tt
shown_there d formed items shows Closes i = tt
shown_there d formed items shows (Stands n) i = stands_there d formed items shows n i
shown_there d formed items shows (Keeps t) i = tt

-- ---- one item more

pub open_both : {R : Type 0} (heads : List Head) (xs ys : List (ItemOf R)) → open_after heads (xs ++ ys) ≡ open_after (open_after heads xs) ys
open_both heads [] ys = refl
open_both heads (Open h ∷ xs) ys = open_both (h ∷ heads) xs ys
open_both [] (Close ∷ xs) ys = open_both [] xs ys
open_both (h ∷ heads) (Close ∷ xs) ys = open_both heads xs ys
open_both heads (Leaf f ∷ xs) ys = open_both heads xs ys
open_both heads (Kept t ∷ xs) ys = open_both heads xs ys

pub more_both : {R : Type 0} (more : Bool) (xs ys : List (ItemOf R)) → more_after more (xs ++ ys) ≡ more_after (more_after more xs) ys
more_both more [] ys = refl
more_both more (Open h ∷ xs) ys = more_both false xs ys
more_both more (Close ∷ xs) ys = more_both true xs ys
more_both more (Leaf f ∷ xs) ys = more_both true xs ys
more_both more (Kept t ∷ xs) ys = more_both true xs ys
