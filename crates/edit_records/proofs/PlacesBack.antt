-- Features that stand at the places of their numbers.
use Rattle.kit_words.proofs.Common.{◌≡◌, ℕ, Bool, true, false, refl, sym, ap, ap₂, ◌∙◌, cond, List, [], ◌∷◌, ◌++◌}
use Rattle.kit_words.proofs.Common.{Option, None, inl, inr, eqb-true, ◌==◌, flat_map, flat_map-append}
use Rattle.ring_machine.specs.Common.{FeatureOf, ItemOf, DocumentOf, Open, Close, Kept, feature}
use Rattle.ring_machine.proofs.Common.{In, in_left, in_right}
use Rattle.edit_records.specs.Common.{number_of, numbers_of, numbers_placed, Place, Begins, Ends, Text_of, Number, Tree}
use Rattle.edit_records.specs.Common.{Alone, Places, LayerTree, leaf, or_empty, item_at, items_of, filled, Fills}
use Rattle.edit_records.specs.Common.{with_new, tree_with, grown}

-- ---- the same features

module _ {R : Type 0} (k j : ℕ → Option (FeatureOf R)) where
  places-agree : (ps : List Place) → ((n : ℕ) → In n (flat_map number_of ps) → k n ≡ j n)
      → flat_map (item_at k) ps ≡ flat_map (item_at j) ps
  places-agree [] same = refl
  places-agree (Begins h ∷ ps) same = ap (λ z. Open h ∷ z) (places-agree ps same)
  places-agree (Ends ∷ ps) same = ap (λ z. Close ∷ z) (places-agree ps same)
  places-agree (Text_of t ∷ ps) same = ap (λ z. Kept t ∷ z) (places-agree ps same)
  places-agree (Number n ∷ ps) same =
      ap₂ (λ y z. leaf y ++ z) (same n (inl refl)) (places-agree ps (λ m i. same m (inr i)))

  tree-agree : (t : Tree) → ((n : ℕ) → In n (numbers_of t) → k n ≡ j n) → items_of k t ≡ items_of j t
  tree-agree (Alone n) same = ap (λ f. or_empty (leaf f)) (same n (inl refl))
  tree-agree (Places ps) same = places-agree ps same

  -- features that are found alike by the numbers that have a place fill the places alike
  pub filled-agree : (trees : List LayerTree) → ((n : ℕ) → In n (numbers_placed trees) → k n ≡ j n)
      → filled k trees ≡ filled j trees
  filled-agree [] same = refl
  filled-agree (l ∷ ls) same =
      ap₂ (λ y z. record { name = l.name; items = y } ∷ z)
      (tree-agree l.tree (λ n i. same n (in_left n (numbers_of l.tree) (numbers_placed ls) i)))
      (filled-agree ls (λ n i. same n (in_right n (numbers_of l.tree) (numbers_placed ls) i)))

-- ---- a number that no feature has

module _ {R : Type 0} (k : ℕ → Option (FeatureOf R)) (n new : ℕ) (none : k new ≡ None) where
  places-grown : (ps : List Place)
      → flat_map (item_at k) (flat_map (with_new n new) ps) ≡ flat_map (item_at k) ps
  places-grown [] = refl
  places-grown (Begins h ∷ ps) = ap (λ z. Open h ∷ z) (places-grown ps)
  places-grown (Ends ∷ ps) = ap (λ z. Close ∷ z) (places-grown ps)
  places-grown (Text_of t ∷ ps) = ap (λ z. Kept t ∷ z) (places-grown ps)
  places-grown (Number m ∷ ps) =
      flat_map-append (item_at k) (with_new n new (Number m)) (flat_map (with_new n new) ps)
      ∙ ap₂ (λ y z. y ++ z) (by (m == n) refl) (places-grown ps)
    where
      none_more : (xs : List (ItemOf R)) → xs ++ (leaf (k new) ++ []) ≡ xs ++ []
      none_more xs = ap (λ f. xs ++ (leaf f ++ [])) none

      nothing : (xs : List (ItemOf R)) → xs ++ [] ≡ xs
      nothing [] = refl
      nothing (x ∷ xs) = ap (λ z. x ∷ z) (nothing xs)

      by : (b : Bool) → (m == n) ≡ b
          → flat_map (item_at k) (cond b (Number n ∷ Number new ∷ []) (Number m ∷ [])) ≡ leaf (k m)
      by true e = none_more (leaf (k n)) ∙ nothing (leaf (k n)) ∙ ap (λ i. leaf (k i)) (sym (eqb-true m n e))
      by false e = nothing (leaf (k m))

  tree-grown : (t : Tree) → items_of k (tree_with n new t) ≡ items_of k t
  tree-grown (Alone m) = refl
  tree-grown (Places ps) = places-grown ps

  -- its place shows nothing
  pub filled-grown : (trees : List LayerTree) → filled k (grown n new trees) ≡ filled k trees
  filled-grown [] = refl
  filled-grown (l ∷ ls) =
      ap₂ (λ y z. record { name = l.name; items = y } ∷ z) (tree-grown l.tree) (filled-grown ls)

pub fills-grown : {R : Type 0} (trees : List LayerTree) (d : DocumentOf R) (n new : ℕ)
    → feature d new ≡ None → Fills trees d → Fills (grown n new trees) d
fills-grown trees d n new none fills = fills ∙ sym (filled-grown (feature d) n new none trees)
