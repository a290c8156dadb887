-- The rings of features that stand at the places of their numbers.
use Rattle.kit_words.proofs.Common.{◌≡◌, ◌≤◌, ℕ, true, refl, sym, ap, ap₂, ◌∙◌, subst, cond, List, [], ◌∷◌, ◌++◌, map}
use Rattle.kit_words.proofs.Common.{inl, inr, Option, Some, None, length, arith, eqb-true, eq-eqb, ◌==◌, flat_map}
use Rattle.kit_words.proofs.Common.{filter_map, sum_by, append-nil, flat_map-append, filter_map-append, flat_map-map}
use Rattle.kit_words.proofs.Common.{sum_by-cons, sum_by-append, false_from_ne_true}
use Rattle.grid_geometry.specs.Common.{Position}
use Rattle.ring_machine.specs.Common.{FeatureOf, DocumentOf, Document, feature_of, feature, features, rings, rings_of}
use Rattle.ring_machine.specs.Common.{size, are_distinct}
use Rattle.ring_machine.proofs.Common.{In, in-append, in_left, in_right, distinct_parts, feature_in, of_layers}
use Rattle.ring_machine.proofs.Common.{in_mapped, in-map, in_split}
use Rattle.edit_records.specs.Common.{Place, Number, Tree, Alone, Places, LayerTree, number_of, numbers_of}
use Rattle.edit_records.specs.Common.{numbers_placed, has_place, leaf, or_empty, item_at, items_of, filled, Fills}
use Rattle.edit_records.specs.Common.{exchanged_features, exchanged, AreNumbered}
use Rattle.edit_records.proofs.Common.{exchanged-feature, place_in}
use Rattle.feature_exchange.specs.Common.{rings_in, coming}

-- ---- all rings, by the numbers that have places

leaf_rings : {R : Type 0} (o : Option (FeatureOf R)) → flat_map rings_of (filter_map feature_of (leaf o)) ≡ rings_in o
leaf_rings None = refl
leaf_rings (Some f) = append-nil (rings_of f)

alone_rings : {R : Type 0} (o : Option (FeatureOf R))
    → flat_map rings_of (filter_map feature_of (or_empty (leaf o))) ≡ rings_in o
alone_rings None = refl
alone_rings (Some f) = append-nil (rings_of f)

-- the rings that these numbers have
abbrev pub rings_at : {R : Type 0} → (ℕ → Option (FeatureOf R)) → List ℕ → List R
rings_at k ns = flat_map (λ m. rings_in (k m)) ns

module _ {R : Type 0} (k : ℕ → Option (FeatureOf R)) where
  items_rings : (ps : List Place)
      → flat_map rings_of (filter_map feature_of (flat_map (item_at k) ps)) ≡ rings_at k (flat_map number_of ps)
  items_rings [] = refl
  items_rings (Number m ∷ ps) =
      ap (flat_map rings_of) (filter_map-append feature_of (leaf (k m)) (flat_map (item_at k) ps))
      ∙ flat_map-append rings_of (filter_map feature_of (leaf (k m))) (filter_map feature_of (flat_map (item_at k) ps))
      ∙ ap₂ (λ y z. y ++ z) (leaf_rings (k m)) (items_rings ps)
  items_rings (_ ∷ ps) = items_rings ps

  tree_rings : (t : Tree) → flat_map rings_of (filter_map feature_of (items_of k t)) ≡ rings_at k (numbers_of t)
  tree_rings (Alone m) = alone_rings (k m) ∙ sym (append-nil (rings_in (k m)))
  tree_rings (Places ps) = items_rings ps

  pub filled_rings : (trees : List LayerTree)
      → flat_map rings_of (of_layers (filled k trees)) ≡ rings_at k (numbers_placed trees)
  filled_rings [] = refl
  filled_rings (l ∷ ls) =
      flat_map-append rings_of (filter_map feature_of (items_of k l.tree)) (of_layers (filled k ls))
      ∙ ap₂ (λ y z. y ++ z) (tree_rings l.tree) (filled_rings ls)
      ∙ sym (flat_map-append (λ m. rings_in (k m)) (numbers_of l.tree) (numbers_placed ls))

pub rings_placed : {R : Type 0} (trees : List LayerTree) (d : DocumentOf R) → Fills trees d
    → rings d ≡ rings_at (feature d) (numbers_placed trees)
rings_placed trees d fills = ap (λ z. flat_map rings_of (of_layers z)) fills ∙ filled_rings (feature d) trees

-- ---- numbers

-- where a number stands among others, and nowhere else
pub record Spot (n : ℕ) (ns : List ℕ) : Type 0 where
  pub us : List ℕ
  pub vs : List ℕ
  pub is : ns ≡ us ++ n ∷ vs
  pub before : In n us → ⊥
  pub after : In n vs → ⊥

pub spot : (n : ℕ) (ns : List ℕ) → are_distinct ns ≡ true → In n ns → Spot n ns
spot n [] d i = absurd i
spot n (m ∷ ns) d (inl e) = record {
  us = [];
  vs = ns;
  is = ap (λ z. z ∷ ns) e;
  before = λ j. j;
  after = (distinct_parts (m ∷ []) ns d).apart n (inl e);
}
spot n (m ∷ ns) d (inr i) =
    let parts = distinct_parts (m ∷ []) ns d in
    let k = spot n ns parts.right i in
    record {
      us = m ∷ k.us;
      vs = k.vs;
      is = ap (λ z. m ∷ z) k.is;
      before = λ j. elim j [ inl e ↦ parts.apart n (inl e) i | inr l ↦ k.before l ];
      after = k.after;
    }

pub flat_same : {X Y : Type 0} (f g : X → List Y) (xs : List X) → ((x : X) → In x xs → f x ≡ g x)
    → flat_map f xs ≡ flat_map g xs
flat_same f g [] a = refl
flat_same f g (x ∷ xs) a = ap₂ (λ y z. y ++ z) (a x (inl refl)) (flat_same f g xs (λ y i. a y (inr i)))

-- ---- what the numbers have after an exchange

module _ {R : Type 0} where
  abbrev pub numbers : List (ℕ × Option (FeatureOf R)) → List ℕ
  numbers cs = map (λ c. c.0) cs

  pub others_same : (cs : List (ℕ × Option (FeatureOf R))) (k : ℕ → Option (FeatureOf R)) (m : ℕ)
      → (In m (numbers cs) → ⊥) → exchanged_features cs k m ≡ k m
  others_same [] k m f = refl
  others_same (c ∷ cs) k m f =
      ap (λ b. cond b c.1 (exchanged_features cs k m)) (false_from_ne_true (m == c.0) (λ t. f (inl (sym (eqb-true m c.0 t))))) ∙ others_same cs k m (λ i. f (inr i))

  pub has_given : (cs : List (ℕ × Option (FeatureOf R))) (k : ℕ → Option (FeatureOf R)) (c : ℕ × Option (FeatureOf R))
      → are_distinct (numbers cs) ≡ true → In c cs → exchanged_features cs k c.0 ≡ c.1
  has_given [] k c d i = absurd i
  has_given (b ∷ cs) k c d (inl e) =
      ap (λ t. cond t b.1 (exchanged_features cs k c.0)) (eq-eqb c.0 b.0 (sym (ap (λ z. z.0) e))) ∙ ap (λ z. z.1) e
  has_given (b ∷ cs) k c d (inr i) =
      let parts = distinct_parts (b.0 ∷ []) (numbers cs) d in
      ap (λ t. cond t b.1 (exchanged_features cs k c.0)) (false_from_ne_true (c.0 == b.0) (λ t. parts.apart c.0 (inl (sym (eqb-true c.0 b.0 t))) (in-map (λ z. z.0) c cs i)))
      ∙ has_given cs k c parts.right i

  -- these numbers have places
  abbrev pub HavePlaces : List LayerTree → List (ℕ × Option (FeatureOf R)) → Type 0
  HavePlaces trees cs = (c : ℕ × Option (FeatureOf R)) → In c cs → has_place trees c.0 ≡ true

  module _ (trees : List LayerTree) (cs : List (ℕ × Option (FeatureOf R))) (d : DocumentOf R) (own : AreNumbered cs)
      (distinct : are_distinct (numbers cs) ≡ true) (placed : HavePlaces trees cs) where
    pub feature_came : (c : ℕ × Option (FeatureOf R)) → In c cs → feature (exchanged trees cs d) c.0 ≡ c.1
    feature_came c i = exchanged-feature trees cs d own c.0 (placed c i) ∙ has_given cs (feature d) c distinct i

    pub came_in : (c : ℕ × Option (FeatureOf R)) → In c cs → (f : FeatureOf R) → c.1 ≡ Some f
        → In f (features (exchanged trees cs d))
    came_in c i f e = (feature_in (exchanged trees cs d) c.0 f (feature_came c i ∙ e)).0

    pub coming_is : coming cs ≡ rings_at (exchanged_features cs (feature d)) (numbers cs)
    coming_is =
        flat_same (λ c. rings_in c.1) (λ c. rings_in (exchanged_features cs (feature d) c.0)) cs
        (λ c i. ap rings_in (sym (has_given cs (feature d) c distinct i)))
        ∙ sym (flat_map-map (λ m. rings_in (exchanged_features cs (feature d) m)) (λ c. c.0) cs)

-- ---- how long the rings are

some_fewer : (g : ℕ → ℕ) (ns all : List ℕ) → are_distinct ns ≡ true → ((n : ℕ) → In n ns → In n all)
    → sum_by g ns ≤ sum_by g all
some_fewer g [] all d among = omega arith
some_fewer g (n ∷ ns) all d among =
    let parts = distinct_parts (n ∷ []) ns d in
    let k = in_split n all (among n (inl refl)) in
    let rest : sum_by g ns ≤ sum_by g (k.0 ++ k.1) = some_fewer g ns (k.0 ++ k.1) parts.right (λ m i.
    elim (in-append m k.0 (n ∷ k.1) (subst (In m) k.2 (among m (inr i)))) [
      | inl l ↦ in_left m k.0 k.1 l
      | inr l ↦ elim l [
        | inl e ↦ absurd (parts.apart m (inl e) i)
        | inr j ↦ in_right m k.0 k.1 j
      ]
    ]) in
    omega (
      arith,
      rest,
      sum_by-append g k.0 k.1,
      ap (sum_by g) k.2,
      sum_by-append g k.0 (n ∷ k.1),
      sum_by-cons g n k.1,
      sum_by-cons g n ns,
    )

pub sum_flat : {X Y : Type 0} (g : Y → ℕ) (h : X → List Y) (xs : List X)
    → sum_by g (flat_map h xs) ≡ sum_by (λ x. sum_by g (h x)) xs
sum_flat g h [] = refl
sum_flat g h (x ∷ xs) =
    omega (arith, sum_by-append g (h x) (flat_map h xs), sum_by-cons (λ y. sum_by g (h y)) x xs, sum_flat g h xs)

-- what comes is no longer than all that is there then
pub coming_size : (trees : List LayerTree) (cs : List (ℕ × Option (FeatureOf (List Position)))) (d : Document)
    → AreNumbered cs → are_distinct (numbers cs) ≡ true → HavePlaces trees cs
    → sum_by length (coming cs) ≤ size (exchanged trees cs d)
coming_size trees cs d own distinct placed =
    let k = exchanged_features cs (feature d) in
    let some : sum_by (λ m. sum_by length (rings_in (k m))) (numbers cs) ≤ sum_by (λ m. sum_by length (rings_in (k m))) (numbers_placed trees) =
    some_fewer (λ m. sum_by length (rings_in (k m))) (numbers cs) (numbers_placed trees) distinct (λ n i.
    let w = in_mapped (λ (c : ℕ × Option (FeatureOf (List Position))). c.0) n cs i in
    subst (λ z. In z (numbers_placed trees)) w.2 (place_in trees w.0.0 (placed w.0 w.1))) in
    omega (
      arith,
      some,
      ap (sum_by length) (coming_is trees cs d own distinct placed),
      sum_flat length (λ m. rings_in (k m)) (numbers cs),
      ap (sum_by length) (filled_rings k trees),
      sum_flat length (λ m. rings_in (k m)) (numbers_placed trees),
    )
