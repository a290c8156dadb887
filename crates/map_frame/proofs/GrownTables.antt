-- Tables in which a new number stands directly after another.
use Rattle.kit_words.proofs.Common.{◌≡◌, ◌≢◌, ◌+◌, ◌<◌, ℕ, zero, suc, Bool, true, false, refl, sym, ap, ap₂, ◌∙◌, subst}
use Rattle.kit_words.proofs.Common.{List, [], ◌∷◌, ◌++◌, ◌&&◌, map, length, slice_set, cond, inl, inr, Option, Some}
use Rattle.kit_words.proofs.Common.{None, option_map, arith, Contains, slice_get, Vec, ◌==◌, flat_map, list_all}
use Rattle.kit_words.proofs.Common.{AllByRecursion, length_push, map-append, slice_get_within, flat_map-append}
use Rattle.kit_words.proofs.Common.{flat_map_single, ℕ_discrete, and_parts}
use Rattle.std.proofs.Common.{ne_eqb}
use Rattle.ring_machine.specs.Common.{DocumentOf, WellFormed, are_distinct}
use Rattle.ring_machine.specs.Parts.{features as feature_list}
use Rattle.ring_machine.proofs.Common.{In, contains_in, in_contains, all_in, in_recursion, slice-in}
use Rattle.edit_records.specs.Common.{Place, Number, LayerTree, number_of, filled, grown, tree_with}
use Rattle.edit_records.specs.Places as tree
use Rattle.edit_records.proofs.Common.{filled-agree, filled-grown}
use Rattle.map_frame.specs.Common.{Feature, Stand, Slot, Geometry, Layer, Tables, Framed, with_number, new_after, IsFramed}
use Rattle.map_frame.specs.Common.{StandsAt, is_closing, is_whole, is_enclosed, numbers_at, numbers_in, numbers_under}
use Rattle.map_frame.specs.Common.{all_numbers, live, AreNamed, doc_of, framed, view_feature, places_at, tree_of}
use Rattle.map_frame.specs.Common.{layer_tree, places_of}
use Rattle.map_frame.specs.declared.tables.Slot.TheVariants as slot
use Rattle.map_frame.specs.declared.tables.Geometry.TheVariants as geometry
use Rattle.map_frame.proofs.EditedFeatures.{first_distinct}
use Rattle.map_frame.proofs.NamedOnce.{in_part, one_part, same_some, rest_distinct}
use Rattle.map_frame.proofs.ReadLists.{got_behind}
use Rattle.map_frame.proofs.PlacesSeen.{entry, layers_filled, slot_placed, geometry_placed}
use Rattle.map_frame.proofs.SlotsFresh.{grown_distinct, grown_below, grown_keeps, grown_has}
use Rattle.map_frame.proofs.SlotsGrown.{part_set, grown_off}
use Rattle.map_frame.proofs.SlotsSet.{set_here, set_other, absent_past}

-- ---- lists

module _ {X : Type 0} where
  get_front : (xs ys : List X) (i : ℕ) → i < length xs → slice_get (xs ++ ys) i ≡ slice_get xs i
  get_front [] ys i l = absurd (omega arith)
  get_front (x ∷ xs) ys zero l = refl
  get_front (x ∷ xs) ys (suc i) l = get_front xs ys i (omega arith)

-- a part of distinct numbers
pub part_distinct : {X : Type 0} (g : X → List ℕ) (xs : List X) (i : ℕ) (x : X) → are_distinct (flat_map g xs) ≡ true
    → slice_get xs i ≡ Some x → are_distinct (g x) ≡ true
part_distinct g [] i x d e = absurd cc
part_distinct g (y ∷ xs) zero x d e =
    ap (λ z. are_distinct (g z)) (sym (same_some y x e)) ∙ first_distinct (g y) (flat_map g xs) d
part_distinct g (y ∷ xs) (suc i) x d e = part_distinct g xs i x (rest_distinct (g y) (flat_map g xs) d) e

-- one element of a list was written, and what is made of it is what the change makes of the old one
map_set : {X Y : Type 0} (g : X → Y) (h : Y → Y) (xs : List X) (i : ℕ) (x y : X) → slice_get xs i ≡ Some x
    → g y ≡ h (g x) → ((j : ℕ) (z : X) → j ≢ i → slice_get xs j ≡ Some z → g z ≡ h (g z))
    → map g (slice_set xs i y) ≡ map h (map g xs)
map_set g h xs i x y e here others =
    sym (flat_map_single g (slice_set xs i y))
    ∙ part_set (λ z. g z ∷ []) (map h) refl (map-append h) xs i x y e (ap (λ z. z ∷ []) here)
    (λ j z off f. ap (λ w. w ∷ []) (others j z off f))
    ∙ ap (map h) (flat_map_single g xs)

-- what is true of each element, and of the one that was written
all_set : {X : Type 0} (p : X → Bool) (xs : List X) (i : ℕ) (y : X) → list_all p xs ≡ true → p y ≡ true
    → list_all p (slice_set xs i y) ≡ true
all_set p [] i y h here = refl
all_set p (x ∷ xs) zero y h here = ap₂ (λ a b. a && b) here (and_parts (p x) (list_all p xs) h).1
all_set p (x ∷ xs) (suc i) y h here =
    let b = and_parts (p x) (list_all p xs) h in ap₂ (λ a c. a && c) b.0 (all_set p xs i y b.1 here)

-- other features in a slot leave the collections as they are
module _ {A : Type 0} (ns ns' : Vec ℕ A) where
  closing_set : (n : ℕ) (ss : List (Slot A)) (i : ℕ) → slice_get ss i ≡ Some (slot.Leaves ns)
      → is_closing n (slice_set ss i (slot.Leaves ns')) ≡ is_closing n ss
  closing_set zero (s ∷ ss) zero e = refl
  closing_set (suc n) (s ∷ ss) zero e = ap (λ z. is_closing (suc n) (z ∷ ss)) (sym (same_some s (slot.Leaves ns) e))
  closing_set (suc n) (slot.Open h ∷ ss) (suc i) e = closing_set (suc (suc n)) ss i e
  closing_set (suc n) (slot.Close ∷ ss) (suc i) e = closing_set n ss i e
  closing_set (suc n) (s ∷ ss) (suc i) e = closing_set (suc n) ss i e
  closing_set _ _ _ e = refl

  whole_set : (ss : List (Slot A)) (i : ℕ) → slice_get ss i ≡ Some (slot.Leaves ns)
      → is_whole (slice_set ss i (slot.Leaves ns')) ≡ is_whole ss
  whole_set (s ∷ ss) zero e = ap (λ z. is_whole (z ∷ ss)) (sym (same_some s (slot.Leaves ns) e))
  whole_set (slot.Open h ∷ ss) (suc i) e = closing_set 1 ss i e
  whole_set (slot.Kept t ∷ ss) (suc i) e = closing_set 0 ss i e
  whole_set _ _ e = refl

-- ---- places

module _ (n new : ℕ) where
  number_after : (m : ℕ) → tree.with_new n new (Number m) ≡ map Number (new_after n new m)
  number_after m = by (m == n)
    where
      by : (b : Bool) → cond b (Number n ∷ Number new ∷ []) (Number m ∷ []) ≡ map Number (cond b (n ∷ new ∷ []) (m ∷ []))
      by true = refl
      by false = refl

  -- the numbers of a slot with the new one
  numbers_after_places : (ns : List ℕ) → map Number (with_number n new ns) ≡ flat_map (tree.with_new n new) (map Number ns)
  numbers_after_places [] = refl
  numbers_after_places (m ∷ ns) =
      map-append Number (new_after n new m) (with_number n new ns)
      ∙ ap₂ (λ y z. y ++ z) (sym (number_after m)) (numbers_after_places ns)

  -- places without n stay
  places_off : (ps : List Place) → (In n (flat_map number_of ps) → ⊥) → flat_map (tree.with_new n new) ps ≡ ps
  places_off [] off = refl
  places_off (Number m ∷ ps) off =
      ap₂ (λ b z. cond b (Number n ∷ Number new ∷ []) (Number m ∷ []) ++ z) (ne_eqb m n (λ e. off (inl e)))
      (places_off ps (λ i. off (inr i)))
  places_off (p ∷ ps) off = ap (λ z. p ∷ z) (places_off ps off)

  tree_off : {A : Type 0} (g : Geometry A) → (In n (numbers_in g) → ⊥) → tree_with n new (tree_of g) ≡ tree_of g
  tree_off (geometry.Alone m) off = refl
  tree_off (geometry.Items ss) off =
      ap tree.Places (places_off (flat_map places_at ss.items)
      (λ i. off (subst (In n) (geometry_placed (geometry.Items ss)) i)))

module _ {A : Type 0} (t : Tables A) (k : IsFramed t) (n : ℕ) (s : Stand) (l : Layer A) (ss ss' : Vec (Slot A) A)
    (ns ns' : Vec ℕ A) (within : n < length t.features.items) (stand_at : slice_get t.stands.items n ≡ Some s)
    (layer : slice_get t.layers.items s.layer ≡ Some l) (in_items : l.geometry ≡ geometry.Items ss)
    (place : slice_get ss.items s.slot ≡ Some (slot.Leaves ns))
    (numbers : ns'.items ≡ with_number n (length t.features.items) ns.items)
    (slots : ss'.items ≡ slice_set ss.items s.slot (slot.Leaves ns'))
    (fs' : Vec (Option (Feature A)) A) (features : fs'.items ≡ t.features.items ++ None ∷ [])
    (stands' : Vec Stand A) (stood : stands'.items ≡ t.stands.items ++ s ∷ [])
    (ls' : Vec (Layer A) A)
    (layers : ls'.items ≡ slice_set t.layers.items s.layer (record l { geometry = geometry.Items ss' })) where
  abbrev new : ℕ
  new = length t.features.items

  abbrev after : Tables A
  after = record t { features = fs'; stands = stands'; layers = ls' }

  -- ---- the numbers

  below : (m : ℕ) → In m (all_numbers t.layers.items) → m < length t.features.items
  below m i = in_recursion (λ m. m < length t.features.items) (all_numbers t.layers.items) m k.below i

  among : In n ns.items
  among =
      let at : Contains (numbers_under (slice_get t.layers.items s.layer) s.slot) n = k.standing n s stand_at in
      let in_layer_at : In n (numbers_under (Some l) s.slot) = subst (λ z. In n (numbers_under z s.slot)) layer (contains_in _ n at) in
      rw place at (rw in_items at in_layer_at)

  in_slot : (j : ℕ) (x : Slot A) (m : ℕ) → slice_get ss.items j ≡ Some x → In m (numbers_at x) → In m (numbers_in l.geometry)
  in_slot j x m e i = subst (λ z. In m (numbers_in z)) (sym in_items) (in_part numbers_at ss.items j x m e i)

  ours : In n (numbers_in l.geometry)
  ours = in_slot s.slot (slot.Leaves ns) n place among

  -- another layer has other numbers
  layer_off : (j : ℕ) (z : Layer A) → j ≢ s.layer → slice_get t.layers.items j ≡ Some z → In n (numbers_in z.geometry) → ⊥
  layer_off j z off e i =
      off (one_part (λ z. numbers_in z.geometry) t.layers.items k.once j s.layer z l n e layer i ours)

  slot_off : (j : ℕ) (x : Slot A) → j ≢ s.slot → slice_get ss.items j ≡ Some x → In n (numbers_at x) → ⊥
  slot_off j x off e i =
      let d : are_distinct (flat_map numbers_at ss.items) ≡ true =
      ap (λ z. are_distinct (numbers_in z)) (sym in_items)
      ∙ part_distinct (λ z. numbers_in z.geometry) t.layers.items s.layer l k.once layer in
      off (one_part numbers_at ss.items d j s.slot x (slot.Leaves ns) n e place i among)

  slots_numbers : flat_map numbers_at ss'.items ≡ with_number n (length t.features.items) (flat_map numbers_at ss.items)
  slots_numbers =
      ap (flat_map numbers_at) slots
      ∙ part_set numbers_at (with_number n (length t.features.items)) refl
      (flat_map-append (new_after n (length t.features.items))) ss.items s.slot (slot.Leaves ns) (slot.Leaves ns') place numbers
      (λ j x off e. sym (grown_off n (length t.features.items) (numbers_at x) (slot_off j x off e)))

  -- the new number stands directly after n
  numbers_after : all_numbers ls'.items ≡ with_number n (length t.features.items) (all_numbers t.layers.items)
  numbers_after =
      ap (flat_map (λ z. numbers_in z.geometry)) layers
      ∙ part_set (λ z. numbers_in z.geometry) (with_number n (length t.features.items)) refl
      (flat_map-append (new_after n (length t.features.items))) t.layers.items s.layer l
      (record l { geometry = geometry.Items ss' }) layer
      (slots_numbers ∙ ap (λ z. with_number n (length t.features.items) (numbers_in z)) (sym in_items))
      (λ j z off e. sym (grown_off n (length t.features.items) (numbers_in z.geometry) (layer_off j z off e)))

  once_after : are_distinct (all_numbers ls'.items) ≡ true
  once_after =
      ap are_distinct numbers_after
      ∙ grown_distinct n (length t.features.items) (all_numbers t.layers.items) k.once
      (λ i. let l = below (length t.features.items) i in absurd (omega (arith, l)))

  length_after : length fs'.items ≡ length t.features.items + 1
  length_after =
      ap length features ∙ length_push t.features.items None

  below_after : AllByRecursion (λ m. m < length fs'.items) (all_numbers ls'.items)
  below_after =
      rw (numbers_after, length_after)
      (grown_below n (length t.features.items) (all_numbers t.layers.items) within k.below)

  -- ---- where features stand

  layer_at : slice_get ls'.items s.layer ≡ Some (record l { geometry = geometry.Items ss' })
  layer_at =
      ap (λ z. slice_get z s.layer) layers
      ∙ set_here t.layers.items s.layer (record l { geometry = geometry.Items ss' })
      (slice_get_within t.layers.items s.layer l layer)

  slot_at : slice_get ss'.items s.slot ≡ Some (slot.Leaves ns')
  slot_at =
      ap (λ z. slice_get z s.slot) slots
      ∙ set_here ss.items s.slot (slot.Leaves ns') (slice_get_within ss.items s.slot (slot.Leaves ns) place)

  new_under : In (length t.features.items) (numbers_under (slice_get ls'.items s.layer) s.slot)
  new_under = rw layer_at (rw slot_at (subst (In (length t.features.items)) (sym numbers)
      (grown_has n (length t.features.items) ns.items among)))

  slot_keeps : (b m : ℕ) → In m (numbers_under (Some l) b) → In m (numbers_under (slice_get ls'.items s.layer) b)
  slot_keeps b m i = by (ℕ_discrete b s.slot)
    where
      by : Dec (b ≡ s.slot) → In m (numbers_under (slice_get ls'.items s.layer) b)
      by (yes q) =
          let j : In m (numbers_under (Some l) s.slot) = subst (λ z. In m (numbers_under (Some l) z)) q i in
          let h : In m ns.items = rw place at (rw in_items at j) in
          subst (λ z. In m (numbers_under (slice_get ls'.items s.layer) z)) (sym q)
          (rw layer_at (rw slot_at (subst (In m) (sym numbers) (grown_keeps n (length t.features.items) m ns.items h))))
      by (no off) =
          let same : slice_get ss'.items b ≡ slice_get ss.items b =
          ap (λ z. slice_get z b) slots ∙ set_other ss.items s.slot b (slot.Leaves ns') off in
          rw layer_at (rw same (rw in_items at i))

  -- what stood at a place stands there
  under_after : (a b m : ℕ) → In m (numbers_under (slice_get t.layers.items a) b)
      → In m (numbers_under (slice_get ls'.items a) b)
  under_after a b m i = by (ℕ_discrete a s.layer)
    where
      by : Dec (a ≡ s.layer) → In m (numbers_under (slice_get ls'.items a) b)
      by (yes q) =
          subst (λ z. In m (numbers_under (slice_get ls'.items z) b)) (sym q)
          (slot_keeps b m (subst (λ z. In m (numbers_under z b)) (ap (slice_get t.layers.items) q ∙ layer) i))
      by (no off) =
          subst (λ z. In m (numbers_under z b))
          (sym (ap (λ z. slice_get z a) layers
          ∙ set_other t.layers.items s.layer a (record l { geometry = geometry.Items ss' }) off)) i

  standing_after : (m : ℕ) (x : Stand) → slice_get stands'.items m ≡ Some x → StandsAt ls'.items m x
  standing_after m x e = by (ℕ_discrete m (length t.stands.items))
    where
      by : Dec (m ≡ length t.stands.items) → StandsAt ls'.items m x
      by (yes q) =
          let same : s ≡ x = same_some s x
          (sym (got_behind t.stands.items s []) ∙ ap₂ (λ z i. slice_get z i) (sym stood) (sym q) ∙ e) in
          subst (λ z. StandsAt ls'.items m z) same
          (in_contains _ m (subst (λ z. In z (numbers_under (slice_get ls'.items s.layer) s.slot)) (sym (q ∙ k.alike)) new_under))
      by (no off) =
          let w = slice_get_within stands'.items m x e in
          let len : length stands'.items ≡ length t.stands.items + 1 = ap length stood ∙ length_push t.stands.items s in
          let lt : m < length t.stands.items = grind (arith, w, len) in
          let was_at : slice_get t.stands.items m ≡ Some x =
          sym (ap (λ z. slice_get z m) stood ∙ get_front t.stands.items (s ∷ []) m lt) ∙ e in
          in_contains _ m (under_after x.layer x.slot m (contains_in _ m (k.standing m x was_at)))

  -- ---- the document

  slots_places : flat_map places_at ss'.items ≡ flat_map (tree.with_new n new) (flat_map places_at ss.items)
  slots_places =
      ap (flat_map places_at) slots
      ∙ part_set places_at (flat_map (tree.with_new n new)) refl
      (flat_map-append (tree.with_new n new)) ss.items s.slot (slot.Leaves ns) (slot.Leaves ns') place
      (ap (map Number) numbers ∙ numbers_after_places n new ns.items)
      (λ j x off e. sym (places_off n new (places_at x)
      (λ i. slot_off j x off e (subst (In n) (slot_placed x) i))))

  trees_after : places_of ls'.items ≡ grown n new (places_of t.layers.items)
  trees_after =
      ap places_of layers
      ∙ map_set layer_tree (λ z. record { name = z.name; tree = tree_with n new z.tree }) t.layers.items s.layer l
      (record l { geometry = geometry.Items ss' }) layer
      (ap (λ z. record { name = l.name.now; tree = z })
      (ap tree.Places slots_places ∙ ap (λ z. tree_with n new (tree_of z)) (sym in_items)))
      (λ j z off e. ap (λ y. record { name = z.name.now; tree = y }) (sym (tree_off n new z.geometry (layer_off j z off e))))

  entry_after : (m : ℕ) → entry fs'.items m ≡ entry t.features.items m
  entry_after m = ap (λ z. entry z m) features ∙ ap (option_map (view_feature m)) (longer t.features.items m)
    where
      longer : (fs : List (Option (Feature A))) (i : ℕ) → live (fs ++ None ∷ []) i ≡ live fs i
      longer [] zero = refl
      longer [] (suc i) = refl
      longer (x ∷ fs) zero = refl
      longer (x ∷ fs) (suc i) = longer fs i

  none_new : entry t.features.items new ≡ None
  none_new = absent_past t.features.items new (omega arith)

  doc_after : doc_of after ≡ doc_of t
  doc_after =
      ap (λ z. record { transform = (doc_of t).transform; layers = z; members = (doc_of t).members })
      (layers_filled fs'.items ls'.items
      ∙ filled-agree (entry fs'.items) (entry t.features.items) (places_of ls'.items) (λ m i. entry_after m)
      ∙ ap (filled (entry t.features.items)) trees_after
      ∙ filled-grown (entry t.features.items) n new none_new (places_of t.layers.items)
      ∙ sym (layers_filled t.features.items t.layers.items))

  -- ---- what is kept

  abbrev framed_as : ℕ → List LayerTree → DocumentOf ℕ → Framed
  framed_as next places d = record { doc = d; next = next; places = places; room = length t.names.items }

  framed_after : framed after ≡ record (framed t) { next = new + 1; places = grown n new (places_of t.layers.items) }
  framed_after =
      ap (framed_as (length fs'.items) (places_of ls'.items)) doc_after
      ∙ ap₂ (λ a b. framed_as a b (doc_of t)) length_after trees_after

  enclosed_after : list_all (λ z. is_enclosed z.geometry) ls'.items ≡ true
  enclosed_after =
      ap (list_all (λ z. is_enclosed z.geometry)) layers
      ∙ all_set (λ z. is_enclosed z.geometry) t.layers.items s.layer (record l { geometry = geometry.Items ss' }) k.enclosed
      (ap is_whole slots ∙ whole_set ns ns' ss.items s.slot place
      ∙ ap is_enclosed (sym in_items) ∙ all_in (λ z. is_enclosed z.geometry) t.layers.items l k.enclosed (slice-in t.layers.items s.layer l layer))

  kept_after : new < 200000 → IsFramed after
  kept_after few = record {
    formed = subst (λ d. WellFormed d) (sym doc_after) k.formed;
    enclosed = enclosed_after;
    once = once_after;
    below = below_after;
    alike = ap length stood ∙ length_push t.stands.items s ∙ ap (λ z. z + 1) k.alike ∙ sym length_after;
    standing = standing_after;
    counted = k.counted ∙ ap (λ d. length (feature_list d)) (sym doc_after);
    few = let len = length_after in omega (arith, len, few);
    named = subst (λ d. AreNamed t.names.items d) (sym doc_after) k.named;
    empty = k.empty;
  }

  pub after_is : (framed after ≡ record (framed t) { next = new + 1; places = grown n new (places_of t.layers.items) })
      × (new < 200000 → IsFramed after)
  after_is = (framed_after, kept_after)
