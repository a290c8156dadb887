-- A document in which others stand in the place of a feature, or none, is well formed.
use Rattle.kit_words.proofs.Common.{◌≡◌, ℕ, zero, suc, Bool, true, false, refl, sym, ap, ap₂, ◌∙◌, subst, cond, List}
use Rattle.kit_words.proofs.Common.{[], ◌∷◌, ◌++◌, map, length, ◌||◌, ◌&&◌, ◌⊎◌, inl, inr, Option, Some, None, is_some}
use Rattle.kit_words.proofs.Common.{eqb-true, eq-eqb, arith, ◌==◌, not, list_any, list_all, flat_map, filter_map}
use Rattle.kit_words.proofs.Common.{false≢true, map-append, list_all-append, and_parts}
use Rattle.ring_machine.specs.Common.{FeatureOf, ItemOf, LayerOf, DocumentOf, Open, Close, Leaf, Kept, Text, Member}
use Rattle.ring_machine.specs.Common.{feature_of, features, feature, has_feature, in_feature, in_item, in_layer}
use Rattle.ring_machine.specs.Common.{in_rings, becomes, instead, take_out, is_layer, renamed, is_inner, is_geometry}
use Rattle.ring_machine.specs.Common.{fits_form, are_distinct, WellFormed}
use Rattle.ring_machine.proofs.First.{In, in-append, in_left, in_right}
use Rattle.ring_machine.proofs.Members.{in_mapped, in_any}
use Rattle.ring_machine.proofs.Neighbours.{in-flat_map, all_in}
use Rattle.ring_machine.proofs.InItems.{geometries-in_items}
use Rattle.ring_machine.proofs.LeftOut.{part_map, part_all, part_distinct}
use Rattle.ring_machine.proofs.Found.{distinct-append, distinct_parts, numbers_of, Stands}
use Rattle.ring_machine.proofs.Found.{has_feature-found, feature_in, feature_stands, feature_found}
use Rattle.ring_machine.proofs.TakenOut.{taken, take_out_is, filtered_is}
use Rattle.ring_machine.proofs.Instead.{instead_none, features-instead_at}
use Rattle.ring_machine.proofs.Renamed.{renamed_is}
use Rattle.ring_machine.proofs.Without.{part-features}

-- ---- a feature that is itself a layer

-- the items are feature n alone
abbrev pub alone : {R : Type 0} → ℕ → List (ItemOf R) → Bool
alone n (Leaf f ∷ []) = f.number == n
alone n _ = false

module _ {R : Type 0} (n : ℕ) where
  abbrev with_layers : Option Text → List Member → List (LayerOf R) → DocumentOf R
  with_layers t m ls = record { transform = t; layers = ls; members = m }

  layers_alone : (t : Option Text) (m : List Member) (ls : List (LayerOf R))
      → is_layer (with_layers t m ls) n ≡ list_any (λ l. alone n l.items) ls
  layers_alone t m [] = refl
  layers_alone t m (l ∷ ls) = by l.items (layers_alone t m ls)
    where
      by : (is : List (ItemOf R)) → is_layer (with_layers t m ls) n ≡ list_any (λ l. alone n l.items) ls
          → is_layer (with_layers t m (record { name = l.name; items = is } ∷ ls)) n
          ≡ (alone n is || list_any (λ l. alone n l.items) ls)
      by (Leaf f ∷ []) e = ap (λ z. (f.number == n) || z) e
      by is e = ap (λ z. alone n is || z) e

  pub is_layer_is : (d : DocumentOf R) → is_layer d n ≡ list_any (λ l. alone n l.items) d.layers
  is_layer_is d = layers_alone d.transform d.members d.layers

  -- a layer that is the feature alone
  pub layer_is : (d : DocumentOf R) (l : LayerOf R) (f : FeatureOf R) → In l d.layers
      → l.items ≡ Leaf f ∷ [] → f.number ≡ n → is_layer d n ≡ true
  layer_is d l f i e k =
      is_layer_is d ∙ in_any (λ l. alone n l.items) l d.layers i (ap (alone n) e ∙ eq-eqb f.number n k)

-- changed rings leave which features are layers
pub is_layer-in_rings : {R S : Type 0} (g : R → S) (d : DocumentOf R) (n : ℕ)
    → is_layer (in_rings g d) n ≡ is_layer d n
is_layer-in_rings {R} {S} g d n = is_layer_is n (in_rings g d) ∙ layers d.layers ∙ sym (is_layer_is n d)
  where
    items : (is : List (ItemOf R)) → alone n (map (in_item (in_feature g)) is) ≡ alone n is
    items [] = refl
    items (Leaf f ∷ []) = refl
    items (Leaf f ∷ Leaf h ∷ is) = refl
    items (Leaf f ∷ Open h ∷ is) = refl
    items (Leaf f ∷ Close ∷ is) = refl
    items (Leaf f ∷ Kept t ∷ is) = refl
    items (Open h ∷ is) = refl
    items (Close ∷ is) = refl
    items (Kept t ∷ is) = refl

    layers : (ls : List (LayerOf R))
        → list_any (λ l. alone n l.items) (map (in_layer (map (in_item (in_feature g)))) ls)
        ≡ list_any (λ l. alone n l.items) ls
    layers [] = refl
    layers (l ∷ ls) = ap₂ (λ y z. y || z) (items l.items) (layers ls)

-- ---- others in the place of a feature

-- what may stand in the place of feature n: features that fit their forms, with numbers of which
-- each is n or new, and just one where feature n is itself a layer
pub record Replaces {R : Type 0} (d : DocumentOf R) (n : ℕ) (gs : List (FeatureOf R)) : Type 0 where
  pub forms : list_all fits_form gs ≡ true
  pub numbers : are_distinct (numbers_of gs) ≡ true
  pub new : (f : FeatureOf R) → In f gs → (f.number ≡ n) ⊎ (has_feature d f.number ≡ false)
  pub alone : is_layer d n ≡ true → length gs ≡ 1

-- distinct numbers, of which one becomes others that are itself or new
distinct_swapped : (xs ys ms : List ℕ) (n : ℕ) → are_distinct (xs ++ n ∷ ys) ≡ true
    → are_distinct ms ≡ true → ((m : ℕ) → In m ms → (m ≡ n) ⊎ (In m (xs ++ n ∷ ys) → ⊥))
    → are_distinct (xs ++ (ms ++ ys)) ≡ true
distinct_swapped xs ys ms n h k new =
    let whole = distinct_parts xs (n ∷ ys) h in
    let tail = distinct_parts (n ∷ []) ys whole.right in
    distinct-append xs (ms ++ ys) whole.left
    (distinct-append ms ys k tail.right (λ m i j. elim (new m i) [
      | inl e ↦ tail.apart n (inl refl) (subst (λ z. In z ys) e j)
      | inr o ↦ o (in_right m xs (n ∷ ys) (inr j))
    ]))
    (λ m i j. elim (in-append m ms ys j) [
      | inl l ↦ elim (new m l) [
        | inl e ↦ whole.apart n (subst (λ z. In z xs) e i) (inl refl)
        | inr o ↦ o (in_left m xs (n ∷ ys) i)
      ]
      | inr r ↦ whole.apart m i (inr r)
    ])

module _ {R : Type 0} where
  inner_leaves : (k : ℕ) (gs : List (FeatureOf R)) (is : List (ItemOf R))
      → is_inner (suc k) (map Leaf gs ++ is) ≡ is_inner (suc k) is
  inner_leaves k [] is = refl
  inner_leaves k (f ∷ gs) is = inner_leaves k gs is

  one_leaf : (gs : List (FeatureOf R)) → length gs ≡ 1 → is_geometry (map Leaf gs ++ []) ≡ true
  one_leaf [] e = absurd (omega arith)
  one_leaf (f ∷ []) e = refl
  one_leaf (f ∷ h ∷ gs) e = absurd (omega arith)

module _ {R : Type 0} (n : ℕ) (g : FeatureOf R → List (FeatureOf R)) where
  inner_becomes : (k : ℕ) (is : List (ItemOf R)) → is_inner k is ≡ true
      → is_inner k (flat_map (becomes n g) is) ≡ true
  inner_becomes zero [] h = refl
  inner_becomes zero (i ∷ is) h = absurd (false≢true h)
  inner_becomes (suc k) [] h = h
  inner_becomes (suc k) (Open a ∷ is) h = inner_becomes (suc (suc k)) is h
  inner_becomes (suc k) (Close ∷ is) h = inner_becomes k is h
  inner_becomes (suc k) (Kept t ∷ is) h = inner_becomes (suc k) is h
  inner_becomes (suc k) (Leaf f ∷ is) h = by (f.number == n) (inner_becomes (suc k) is h)
    where
      by : (b : Bool) → is_inner (suc k) (flat_map (becomes n g) is) ≡ true
          → is_inner (suc k) (cond b (map Leaf (g f)) (Leaf f ∷ []) ++ flat_map (becomes n g) is) ≡ true
      by true e = inner_leaves k (g f) (flat_map (becomes n g) is) ∙ e
      by false e = e

  geometry_becomes : (is : List (ItemOf R)) → is_geometry is ≡ true
      → ((f : FeatureOf R) → is ≡ Leaf f ∷ [] → f.number ≡ n → length (g f) ≡ 1)
      → is_geometry (flat_map (becomes n g) is) ≡ true
  geometry_becomes [] h one = h
  geometry_becomes (Open a ∷ is) h one = inner_becomes 1 is h
  geometry_becomes (Close ∷ is) h one = absurd (false≢true h)
  geometry_becomes (Kept t ∷ is) h one = inner_becomes 0 is h
  geometry_becomes (Leaf f ∷ i ∷ is) h one = absurd (false≢true h)
  geometry_becomes (Leaf f ∷ []) h one = by (f.number == n) refl
    where
      by : (b : Bool) → (f.number == n) ≡ b
          → is_geometry (cond b (map Leaf (g f)) (Leaf f ∷ []) ++ []) ≡ true
      by true e = one_leaf (g f) (one f refl (eqb-true f.number n e))
      by false e = refl

  geometries_become : (ls : List (LayerOf R)) → list_all (λ l. is_geometry l.items) ls ≡ true
      → ((l : LayerOf R) (f : FeatureOf R) → In l ls → l.items ≡ Leaf f ∷ [] → f.number ≡ n
      → length (g f) ≡ 1)
      → list_all (λ l. is_geometry l.items) (map (in_layer (flat_map (becomes n g))) ls) ≡ true
  geometries_become [] h one = refl
  geometries_become (l ∷ ls) h one =
      let h' = and_parts (is_geometry l.items) (list_all (λ k. is_geometry k.items) ls) h in
      ap₂ (λ y z. y && z) (geometry_becomes l.items h'.0 (λ f e k. one l f (inl refl) e k))
      (geometries_become ls h'.1 (λ k f i e m. one k f (inr i) e m))

  -- ---- where the feature is there

  module _ (d : DocumentOf R) (formed : WellFormed d)
      (fits : (f : FeatureOf R) → feature d n ≡ Some f → Replaces d n (g f)) where
    geometries_kept : list_all (λ l. is_geometry l.items) (instead n g d).layers ≡ true
    geometries_kept = geometries_become d.layers formed.geometries (λ l f i e k.
        let in_layer_l : In f (filter_map feature_of l.items) =
        subst (λ is. In f (filter_map feature_of is)) (sym e) (inl refl) in
        let there : In f (features d) =
        in-flat_map (λ (m : LayerOf R). filter_map feature_of m.items) l f d.layers i in_layer_l in
        (fits f (feature_found d formed f n there k)).alone (layer_is n d l f i e k))

    module _ (f : FeatureOf R) (at : feature d n ≡ Some f) (place : Stands n f (features d)) where
      forms_kept : list_all fits_form (features (instead n g d)) ≡ true
      forms_kept =
          let before : list_all fits_form (place.us ++ f ∷ place.vs) ≡ true =
          ap (list_all fits_form) (sym place.is) ∙ formed.forms in
          let parts = and_parts (list_all fits_form place.us) (list_all fits_form (f ∷ place.vs))
          (sym (list_all-append fits_form place.us (f ∷ place.vs)) ∙ before) in
          let behind = and_parts (fits_form f) (list_all fits_form place.vs) parts.1 in
          ap (list_all fits_form) (features-instead_at d n g f place)
          ∙ list_all-append fits_form place.us (g f ++ place.vs)
          ∙ ap₂ (λ y z. y && z) parts.0 (list_all-append fits_form (g f) place.vs
          ∙ ap₂ (λ y z. y && z) (fits f at).forms behind.1)

      numbers_before : numbers_of (features d) ≡ numbers_of place.us ++ n ∷ numbers_of place.vs
      numbers_before =
          ap numbers_of place.is ∙ map-append (λ k. k.number) place.us (f ∷ place.vs)
          ∙ ap (λ m. numbers_of place.us ++ m ∷ numbers_of place.vs) place.number

      numbers_after : numbers_of (features (instead n g d))
          ≡ numbers_of place.us ++ (numbers_of (g f) ++ numbers_of place.vs)
      numbers_after =
          ap numbers_of (features-instead_at d n g f place)
          ∙ map-append (λ k. k.number) place.us (g f ++ place.vs)
          ∙ ap (λ z. numbers_of place.us ++ z) (map-append (λ k. k.number) (g f) place.vs)

      new_number : (m : ℕ) → In m (numbers_of (g f))
          → (m ≡ n) ⊎ (In m (numbers_of place.us ++ n ∷ numbers_of place.vs) → ⊥)
      new_number m i =
          let k = in_mapped (λ (h : FeatureOf R). h.number) m (g f) i in
          elim ((fits f at).new k.0 k.1) [
            | inl e ↦ inl (sym k.2 ∙ e)
            | inr o ↦ inr (λ j.
                let there = in_mapped (λ (h : FeatureOf R). h.number) m (features d) (subst (In m) (sym numbers_before) j) in
                false≢true (sym o ∙ in_any (λ (h : FeatureOf R). h.number == k.0.number) there.0 (features d) there.1 (eq-eqb there.0.number k.0.number (there.2 ∙ sym k.2))))
          ]

      numbers_kept : are_distinct (numbers_of (features (instead n g d))) ≡ true
      numbers_kept =
          ap are_distinct numbers_after
          ∙ distinct_swapped (numbers_of place.us) (numbers_of place.vs) (numbers_of (g f)) n
          (ap are_distinct (sym numbers_before) ∙ formed.numbers) (fits f at).numbers new_number

    -- a document stays well formed with such features in the place of feature n
    pub formed-instead : WellFormed (instead n g d)
    formed-instead = by (feature d n) refl
      where
        by : (o : Option (FeatureOf R)) → feature d n ≡ o → WellFormed (instead n g d)
        by None e = subst WellFormed (sym (instead_none n g d (has_feature-found d n ∙ ap is_some e))) formed
        by (Some f) e = let place = feature_stands d formed n f e in record {
          geometries = geometries_kept;
          forms = forms_kept f e place;
          numbers = numbers_kept f e place;
        }

-- ---- one feature, or two

module _ {R : Type 0} (d : DocumentOf R) (n : ℕ) where
  -- one feature with the same number
  pub replaces_one : (f : FeatureOf R) → f.number ≡ n → fits_form f ≡ true → Replaces d n (f ∷ [])
  replaces_one f e h = record {
    forms = ap (λ b. b && true) h;
    numbers = refl;
    new = λ k i. elim i [ inl s ↦ inl (ap (λ (j : FeatureOf R). j.number) (sym s) ∙ e) | inr i' ↦ absurd i' ];
    alone = λ t. refl;
  }

  -- one with the same number and one with a new number, in a collection
  pub replaces_two : (f h : FeatureOf R) → has_feature d n ≡ true → is_layer d n ≡ false
      → f.number ≡ n → has_feature d h.number ≡ false → fits_form f ≡ true → fits_form h ≡ true
      → Replaces d n (f ∷ h ∷ [])
  replaces_two f h there collected e new k l = record {
    forms = ap₂ (λ a b. a && (b && true)) k l;
    numbers = ap (λ b. not (b || false) && (not false && true)) (differ (h.number == f.number) refl);
    new = λ j i. elim i [
      | inl s ↦ inl (ap (λ (x : FeatureOf R). x.number) (sym s) ∙ e)
      | inr i' ↦ elim i' [
        | inl s ↦ inr (ap (λ (x : FeatureOf R). has_feature d x.number) (sym s) ∙ new)
        | inr i'' ↦ absurd i''
      ]
    ];
    alone = λ t. absurd (false≢true (sym collected ∙ t));
  }
    where
      differ : (b : Bool) → (h.number == f.number) ≡ b → (h.number == f.number) ≡ false
      differ b s = grind arith

-- ---- a feature taken out

geometry_taken : {R : Type 0} (n : ℕ) (is : List (ItemOf R)) → is_geometry is ≡ true
    → is_geometry (taken n is) ≡ true
geometry_taken n [] h = h
geometry_taken n (Open a ∷ is) h = ap (is_inner 1) (filtered_is n is) ∙ inner_becomes n (λ f. []) 1 is h
geometry_taken n (Close ∷ is) h = absurd (false≢true h)
geometry_taken n (Kept t ∷ is) h = ap (is_inner 0) (filtered_is n is) ∙ inner_becomes n (λ f. []) 0 is h
geometry_taken n (Leaf f ∷ i ∷ is) h = absurd (false≢true h)
geometry_taken {R} n (Leaf f ∷ []) h = grind arith

pub formed-take_out : {R : Type 0} (d : DocumentOf R) (n : ℕ) → WellFormed d → WellFormed (take_out d n)
formed-take_out {R} d n h = record {
  geometries = ap (λ (e : DocumentOf R). list_all (λ l. is_geometry l.items) e.layers) (take_out_is n d)
      ∙ geometries-in_items (taken n) (λ is. true) (λ is g t. geometry_taken n is g) d.layers h.geometries (all_true d.layers);
  forms = part_all fits_form (part-features d n) h.forms;
  numbers = part_distinct (part_map (λ f. f.number) (part-features d n)) h.numbers;
}
  where
    all_true : (ls : List (LayerOf R)) → list_all (λ l. true) ls ≡ true
    all_true [] = refl
    all_true (l ∷ ls) = all_true ls

-- ---- another id

pub formed-renamed : {R : Type 0} (d : DocumentOf R) (n : ℕ) (id : Text) → WellFormed d
    → WellFormed (renamed d n id)
formed-renamed {R} d n id h =
    subst WellFormed (sym (renamed_is n id d))
    (formed-instead n (λ f. record f { id = Some id } ∷ []) d h (λ f e.
    let there = feature_in d n f e in
    replaces_one d n (record f { id = Some id }) there.1 (all_in fits_form (features d) f h.forms there.0)))
