-- Building layer by layer and item by item: what is done so far, and what is left.
use Rattle.kit_words.proofs.Common.{◌≡◌, ◌∙◌, ℕ, zero, suc, ◌+◌, refl, sym, ap, subst, arith, append_assoc}
use Rattle.kit_words.proofs.Common.{add-one, List, [], ◌∷◌, ◌++◌, length, map, drop, Option, Some, None, length-append}
use Rattle.kit_words.proofs.Common.{Vec, not, IsTrue, slice_get, unwrap_or, flat_map}
use Rattle.std.proofs.Common.{append-nil}
use Rattle.topo_outline.specs.Outline.{leaf_of, at_most_one, leaves_in, leaves}
use Rattle.topo_outline.specs.Common.{view_item, view_layer}
use Rattle.topo_outline.specs.declared.document.Item.{Item}
use Rattle.topo_outline.specs.declared.document.Item.TheVariants as item
use Rattle.topo_outline.specs.declared.document.RawFeature.{RawFeature}
use Rattle.topo_outline.specs.declared.document.RawLayer.{RawLayer}
use Rattle.map_frame.specs.Common.{Feature, Stand, Slot, Geometry, Layer, Progress, CanTake, IsNext, IsSlot, AreSlots, first_of}
use Rattle.map_frame.specs.Common.{lone, alone_or, of_slots, is_lone, IsGeometry, AreLayers, numbers_at, numbers_in, all_numbers}
use Rattle.map_frame.specs.declared.tables.Geometry.TheVariants as geometry

-- ---- numbers in order

-- the numbers go from n on, and m is the next one
abbrev pub AreFrom : ℕ → List ℕ → ℕ → Type 0
AreFrom n [] m = n ≡ m
AreFrom n (x ∷ xs) m = (x ≡ n) × AreFrom (n + 1) xs m

from-append : (n m k : ℕ) (xs ys : List ℕ) → AreFrom n xs m → AreFrom m ys k → AreFrom n (xs ++ ys) k
from-append n m k [] ys h i = subst (λ z. AreFrom z ys k) (sym h) i
from-append n m k (x ∷ xs) ys h i = (h.0, from-append (n + 1) m k xs ys h.1 i)

drop_more : {X : Type 0} (xs : List X) (n : ℕ) (x : X) (ys : List X) → drop n xs ≡ x ∷ ys → drop (suc n) xs ≡ ys
drop_more (z ∷ xs) zero x ys e = ap (drop 1) e
drop_more (z ∷ xs) (suc n) x ys e = drop_more xs n x ys e
drop_more [] zero x ys e = absurd cc
drop_more [] (suc n) x ys e = absurd cc

-- ---- what came, and what is left

module _ {A : Type 0} where
  -- how many features are among these items, and among these layers
  abbrev pub leaves_of : List (Item A) → ℕ
  leaves_of items = length (leaves_in (map view_item items))

  abbrev pub all_leaves : List (RawLayer A) → ℕ
  all_leaves ls = length (leaves (map view_layer ls))

  -- these are all features and where they stand, some of which came so far
  pub record Whole (fs : List (Option (Feature A))) (ss : List Stand) (p : Progress A) : Type 0 where
    pub more : List (Option (Feature A))
    pub whole : fs ≡ p.features ++ more
    pub more_stands : List Stand
    pub whole_stands : ss ≡ p.stands ++ more_stands

  -- these are the polygons of all features, some of which wait still
  pub record Waits (all : List (Vec (Vec ℕ A) A)) (p : Progress A) : Type 0 where
    pub waits : drop (length p.features) all ≡ p.waiting

  -- so many features came, with these numbers
  pub record Came (n : ℕ) (ns : List ℕ) (old new : Progress A) : Type 0 where
    pub more : length new.features ≡ length old.features + n
    pub stood : length new.stands ≡ length old.stands + n
    pub fewer : length old.waiting ≡ n + length new.waiting
    pub numbers : AreFrom (length old.features) ns (length new.features)
    pub whole : (fs : List (Option (Feature A))) (ss : List Stand) → Whole fs ss new → Whole fs ss old
    pub waits : (all : List (Vec (Vec ℕ A) A)) → Waits all old → Waits all new

  came_none : (ns : List ℕ) (old new : Progress A) → ns ≡ [] → new ≡ old → Came 0 ns old new
  came_none ns old new none e = subst (λ ms. Came 0 ms old new) (sym none) (subst (Came 0 [] old) (sym e) (record {
    more = omega arith;
    stood = omega arith;
    fewer = omega arith;
    numbers = refl;
    whole = λ fs ss w. w;
    waits = λ all v. v;
  }))

  came_both : (m n k : ℕ) (ms ns : List ℕ) (old now new : Progress A) → Came m ms old now → Came n ns now new
      → k ≡ m + n → Came k (ms ++ ns) old new
  came_both m n k ms ns old now new g h e = record {
    more = omega (arith, g.more, h.more, e);
    stood = omega (arith, g.stood, h.stood, e);
    fewer = omega (arith, g.fewer, h.fewer, e);
    numbers = from-append (length old.features) (length now.features) (length new.features) ms ns g.numbers h.numbers;
    whole = λ fs ss w. g.whole fs ss (h.whole fs ss w);
    waits = λ all v. h.waits all (g.waits all v);
  }

  room_left : (m n k : ℕ) (ns : List ℕ) (old new : Progress A) → CanTake k old → Came m ns old new → k ≡ m + n → CanTake n new
  room_left m n k ns old new h c e = record {
    few = omega (arith, h.few, c.more, e);
    there = omega (arith, h.there, c.fewer, e);
    alike = omega (arith, h.alike, c.more, c.stood);
  }

  -- room for the first of them
  pub room_first : (m n k : ℕ) (now : Progress A) → CanTake k now → k ≡ m + n → CanTake m now
  room_first m n k now h e = record {
    few = omega (arith, h.few, e);
    there = omega (arith, h.there, e);
    alike = h.alike;
  }

  -- ---- the next feature

  module _ {raw : RawFeature A} (layer at : ℕ) (old new : Progress A) (h : IsNext raw layer at old new) where
    abbrev stand : Stand
    stand = record { layer = layer; slot = at }

    pub next_whole : (fs : List (Option (Feature A))) (ss : List Stand) (w : Whole fs ss new)
        → fs ≡ old.features ++ Some h.feature ∷ w.more
    next_whole fs ss w = w.whole ∙ ap (λ z. z ++ w.more) h.appended ∙ append_assoc old.features (Some h.feature ∷ []) w.more

    pub next_stands : (fs : List (Option (Feature A))) (ss : List Stand) (w : Whole fs ss new)
        → ss ≡ old.stands ++ record { layer = layer; slot = at } ∷ w.more_stands
    next_stands fs ss w =
        w.whole_stands ∙ ap (λ z. z ++ w.more_stands) h.stood ∙ append_assoc old.stands (stand ∷ []) w.more_stands

    pub came_next : Came 1 (length old.features ∷ []) old new
    came_next =
        let long : length new.features ≡ length old.features + 1 =
        ap length h.appended ∙ length-append old.features (Some h.feature ∷ []) in
        record {
          more = long;
          stood = ap length h.stood ∙ length-append old.stands (stand ∷ []);
          fewer = ap length h.taken ∙ omega arith;
          numbers = (refl, sym long);
          whole = λ fs ss w. record {
            more = Some h.feature ∷ w.more;
            whole = next_whole fs ss w;
            more_stands = stand ∷ w.more_stands;
            whole_stands = next_stands fs ss w;
          };
          waits = λ all v. record {
            waits = ap (λ n. drop n all) (long ∙ add-one (length old.features))
                ∙ drop_more all (length old.features) h.polygons new.waiting (v.waits ∙ h.taken);
          };
        }

  -- ---- items

  pub leaves_of-cons : (i : Item A) (items : List (Item A)) → leaves_of (i ∷ items) ≡ leaves_of (i ∷ []) + leaves_of items
  unfolding leaves_in
  leaves_of-cons i items =
      let here = at_most_one (leaf_of (view_item i)) in
      omega (arith, length-append here (leaves_in (map view_item items)), length-append here [])

  pub one_leaf : (raw : RawFeature A) → leaves_of (item.Leaf raw ∷ []) ≡ 1
  unfolding leaves_in
  one_leaf raw = refl

  pub came_slot : (layer at : ℕ) (i : Item A) (s : Slot A) (old new : Progress A) → IsSlot layer at i s old new
      → Came (leaves_of (i ∷ [])) (numbers_at s) old new
  unfolding leaves_in
  came_slot layer at (item.Leaf raw) s old new k =
      subst (λ ns. Came 1 ns old new) (sym (ap numbers_at k.0.1 ∙ k.0.2)) (came_next layer at old new k.1)
  came_slot layer at i s old new k = came_none (numbers_at s) old new (ap numbers_at k.0) k.1

  -- the slots so far, where these items are left
  pub record SlotsSoFar (layer : ℕ) (items : List (Item A)) (start : Progress A)
      (left : List (Item A)) (slots : List (Slot A)) (now : Progress A) : Type 0 where
    pub room : CanTake (leaves_of left) now
    pub rest : (more : List (Slot A)) (end : Progress A) → AreSlots layer (length slots) left more now end
        → AreSlots layer 0 items (slots ++ more) start end

  pub slots_begin : (layer : ℕ) (items : List (Item A)) (slots : List (Slot A)) (start : Progress A) → slots ≡ []
      → CanTake (leaves_of items) start → SlotsSoFar layer items start items slots start
  slots_begin layer items slots start f room = record {
    room = room;
    rest = λ more end k. subst (λ z. AreSlots layer (length z) items more start end → AreSlots layer 0 items (z ++ more) start end)
        (sym f) (λ h. h) k;
  }

  pub slots_more : (layer : ℕ) (items : List (Item A)) (start : Progress A) (before left : List (Item A)) (i : Item A)
      (slots : List (Slot A)) (s : Slot A) (now next : Progress A) → SlotsSoFar layer items start before slots now
      → before ≡ i ∷ left → IsSlot layer (length slots) i s now next
      → SlotsSoFar layer items start left (slots ++ s ∷ []) next
  slots_more layer items start before left i slots s now next h e k = record {
    room = room_left (leaves_of (i ∷ [])) (leaves_of left) (leaves_of before) (numbers_at s) now next h.room
        (came_slot layer (length slots) i s now next k) (ap leaves_of e ∙ leaves_of-cons i left);
    rest = λ more end j.
        subst (λ z. AreSlots layer 0 items z start end) (sym (append_assoc slots (s ∷ []) more))
        (h.rest (s ∷ more) end
        (subst (λ z. AreSlots layer (length slots) z (s ∷ more) now end) (sym e)
        (next, k, subst (λ z. AreSlots layer z left more next end) (length-append slots (s ∷ [])) j)));
  }

  pub slots_end : (layer : ℕ) (items : List (Item A)) (start : Progress A) (left : List (Item A))
      (slots : List (Slot A)) (now : Progress A) → SlotsSoFar layer items start left slots now → left ≡ []
      → AreSlots layer 0 items slots start now
  slots_end layer items start left slots now h e =
      subst (λ z. AreSlots layer 0 items z start now) (append-nil slots)
      (h.rest [] now (subst (λ z. AreSlots layer (length slots) z [] now now) (sym e) refl))

  pub came_slots : (layer at : ℕ) (items : List (Item A)) (slots : List (Slot A)) (old new : Progress A)
      → AreSlots layer at items slots old new → Came (leaves_of items) (flat_map numbers_at slots) old new
  unfolding leaves_in
  came_slots layer at [] [] old new h = came_none [] old new refl h
  came_slots layer at (i ∷ items) (s ∷ slots) old new h =
      came_both (leaves_of (i ∷ [])) (leaves_of items) (leaves_of (i ∷ items)) (numbers_at s) (flat_map numbers_at slots) old h.0 new
      (came_slot layer at i s old h.0 h.1) (came_slots layer (at + 1) items slots h.0 new h.2) (leaves_of-cons i items)
  came_slots layer at _ _ old new h = absurd h

  -- ---- one feature alone

  one_slot : (layer n : ℕ) (i : Item A) (s : Slot A) (old now : Progress A) → IsSlot layer 0 i s old now → first_of s ≡ Some n
      → (raw : RawFeature A) × (i ≡ item.Leaf raw) × (n ≡ length old.features) × IsNext raw layer 0 old now
  one_slot layer n (item.Leaf raw) s old now k e = (raw, refl, ap (λ o. unwrap_or o n) (sym e ∙ first), k.1)
    where
      first : first_of s ≡ Some (length old.features)
      first = ap first_of k.0.1 ∙ ap (λ z. slice_get z 0) k.0.2
  one_slot layer n i s old now k e = let f = ap first_of k.0 in absurd cc

  lone_some : (layer n : ℕ) (items : List (Item A)) (slots : List (Slot A)) (old new : Progress A) → AreSlots layer 0 items slots old new
      → lone slots ≡ Some n
      → (raw : RawFeature A) × (items ≡ item.Leaf raw ∷ []) × (n ≡ length old.features) × IsNext raw layer 0 old new
  lone_some layer n [] (s ∷ slots) old new h e = absurd h
  lone_some layer n (i ∷ items) [] old new h e = absurd h
  lone_some layer n (i ∷ j ∷ items) (s ∷ []) old new h e = absurd h.2
  lone_some layer n (i ∷ []) (s ∷ []) old new h e =
      let k = one_slot layer n i s old h.0 h.1 e in
      (k.0, ap (λ z. z ∷ []) k.1, k.2, subst (λ z. IsNext k.0 layer 0 old z) (sym h.2) k.3)
  lone_some layer n _ _ old new h e = absurd cc

  lone_none : (layer : ℕ) (items : List (Item A)) (slots : List (Slot A)) (old new : Progress A) → AreSlots layer 0 items slots old new
      → lone slots ≡ None → IsTrue (not (is_lone items))
  lone_none layer (item.Leaf raw ∷ []) [] old new h e = absurd h
  lone_none layer (item.Leaf raw ∷ []) (s ∷ t ∷ slots) old new h e = absurd h.2
  lone_none layer (item.Leaf raw ∷ []) (s ∷ []) old new h e =
      let f = ap first_of h.1.0.1 ∙ ap (λ z. slice_get z 0) h.1.0.2 in absurd cc
  lone_none layer _ slots old new h e = refl

  -- ---- layers

  pub geometry_built : (layer : ℕ) (items : List (Item A)) (slots : Vec (Slot A) A) (old new : Progress A)
      → AreSlots layer 0 items slots.items old new → IsGeometry layer items (of_slots slots) old new
  geometry_built layer items slots old new h = by (lone slots.items) refl
    where
      by : (o : Option ℕ) → lone slots.items ≡ o → IsGeometry layer items (of_slots slots) old new
      by (Some n) e =
          subst (λ o. IsGeometry layer items (alone_or slots o) old new) (sym e)
          (lone_some layer n items slots.items old new h e)
      by None e =
          subst (λ o. IsGeometry layer items (alone_or slots o) old new) (sym e)
          (lone_none layer items slots.items old new h e, h)

  pub came_geometry : (at : ℕ) (items : List (Item A)) (g : Geometry A) (old new : Progress A) → IsGeometry at items g old new
      → Came (leaves_of items) (numbers_in g) old new
  came_geometry at items (geometry.Alone n) old new h =
      subst (λ m. Came m (n ∷ []) old new) (sym (ap leaves_of h.1 ∙ one_leaf h.0))
      (subst (λ m. Came 1 (m ∷ []) old new) (sym h.2) (came_next at 0 old new h.3))
  came_geometry at items (geometry.Items slots) old new h = came_slots at 0 items slots.items old new h.1

  pub all_leaves-cons : (l : RawLayer A) (ls : List (RawLayer A)) → all_leaves (l ∷ ls) ≡ leaves_of l.items.items + all_leaves ls
  unfolding leaves
  all_leaves-cons l ls = length-append (leaves_in (map view_item l.items.items)) (leaves (map view_layer ls))

  -- the layers so far, where these are left
  pub record LayersSoFar (raws : List (RawLayer A)) (start : Progress A)
      (left : List (RawLayer A)) (layers : List (Layer A)) (now : Progress A) : Type 0 where
    pub room : CanTake (all_leaves left) now
    pub rest : (more : List (Layer A)) (end : Progress A) → AreLayers (length layers) left more now end
        → AreLayers 0 raws (layers ++ more) start end

  pub layers_begin : (raws : List (RawLayer A)) (layers : List (Layer A)) (start : Progress A) → layers ≡ []
      → CanTake (all_leaves raws) start → LayersSoFar raws start raws layers start
  layers_begin raws layers start f room = record {
    room = room;
    rest = λ more end k. subst (λ z. AreLayers (length z) raws more start end → AreLayers 0 raws (z ++ more) start end)
        (sym f) (λ h. h) k;
  }

  pub layers_more : (raws : List (RawLayer A)) (start : Progress A) (before left : List (RawLayer A)) (r : RawLayer A)
      (layers : List (Layer A)) (l : Layer A) (now next : Progress A) → LayersSoFar raws start before layers now
      → before ≡ r ∷ left → l.name ≡ r.name → IsGeometry (length layers) r.items.items l.geometry now next
      → LayersSoFar raws start left (layers ++ l ∷ []) next
  layers_more raws start before left r layers l now next h e name k = record {
    room = room_left (leaves_of r.items.items) (all_leaves left) (all_leaves before) (numbers_in l.geometry) now next h.room
        (came_geometry (length layers) r.items.items l.geometry now next k) (ap all_leaves e ∙ all_leaves-cons r left);
    rest = λ more end j.
        subst (λ z. AreLayers 0 raws z start end) (sym (append_assoc layers (l ∷ []) more))
        (h.rest (l ∷ more) end
        (subst (λ z. AreLayers (length layers) z (l ∷ more) now end) (sym e)
        (next, name, k, subst (λ z. AreLayers z left more next end) (length-append layers (l ∷ [])) j)));
  }

  pub layers_end : (raws : List (RawLayer A)) (start : Progress A) (left : List (RawLayer A))
      (layers : List (Layer A)) (now : Progress A) → LayersSoFar raws start left layers now → left ≡ []
      → AreLayers 0 raws layers start now
  layers_end raws start left layers now h e =
      subst (λ z. AreLayers 0 raws z start now) (append-nil layers)
      (h.rest [] now (subst (λ z. AreLayers (length layers) z [] now now) (sym e) refl))

  pub came_layers : (at : ℕ) (raws : List (RawLayer A)) (layers : List (Layer A)) (old new : Progress A)
      → AreLayers at raws layers old new → Came (all_leaves raws) (all_numbers layers) old new
  unfolding leaves
  came_layers at [] [] old new h = came_none [] old new refl h
  came_layers at (r ∷ raws) (l ∷ layers) old new h =
      came_both (leaves_of r.items.items) (all_leaves raws) (all_leaves (r ∷ raws)) (numbers_in l.geometry) (all_numbers layers) old h.0 new
      (came_geometry at r.items.items l.geometry old h.0 h.2) (came_layers (at + 1) raws layers h.0 new h.3) (all_leaves-cons r raws)
  came_layers at _ _ old new h = absurd h
