-- The items of a layer are one tree, and its text is put together from those of its parts.
use Rattle.kit_words.proofs.Common.{◌≡◌, ℕ, zero, suc, List, [], ◌∷◌, ◌++◌, map, Bool, true, false, refl, sym, ap, ◌∙◌}
use Rattle.kit_words.proofs.Common.{subst, append_assoc, ℤ, append-nil}
use Rattle.ring_machine.specs.Common.{Text, Head, FeatureOf, ItemOf, Open, Close, Leaf, Kept, in_item, is_inner}
use Rattle.ring_machine.specs.Common.{is_geometry}
use Rattle.map_text.specs.Common.{further, commas, feature_text, opening_text, closing_text, comma_if, items_text}

-- an item whose rings are lists of indexes
abbrev pub Entry : Type 0
Entry = ItemOf (List ℤ)

mutual
  -- the items of one geometry
  pub data IsTree : List Entry → Type 0 where
    of_leaf : {f : FeatureOf (List ℤ)} → IsTree (Leaf f ∷ [])
    of_kept : {t : Text} → IsTree (Kept t ∷ [])
    of_collection : {h : Head} {is : List Entry} → AreTrees is → IsTree (Open h ∷ (is ++ (Close ∷ [])))

  -- the items of geometries one after another
  pub data AreTrees : List Entry → Type 0 where
    no_tree : AreTrees []
    trees : {is js : List Entry} → IsTree is → AreTrees js → AreTrees (is ++ js)

-- ---- the tree of items in brackets

-- trees up to the end of each open collection
data Ends : ℕ → List Entry → Type 0 where
  at_end : Ends zero []
  closes : {n : ℕ} {front rest : List Entry} → AreTrees front → Ends n rest → Ends (suc n) (front ++ (Close ∷ rest))

on_leaf : {n : ℕ} {items : List Entry} (f : FeatureOf (List ℤ)) → Ends (suc n) items → Ends (suc n) (Leaf f ∷ items)
on_leaf f (closes t s) = closes (trees (of_leaf {f = f}) t) s

on_kept : {n : ℕ} {items : List Entry} (t : Text) → Ends (suc n) items → Ends (suc n) (Kept t ∷ items)
on_kept t (closes u s) = closes (trees (of_kept {t = t}) u) s

on_open : {n : ℕ} {items : List Entry} (h : Head) → Ends (suc (suc n)) items → Ends (suc n) (Open h ∷ items)
on_open {n = n} h (closes {front = a} t (closes {front = b} {rest = rest} u s)) =
    subst (Ends (suc n)) (ap (λ (z : List Entry). Open h ∷ z) (append_assoc (a ++ (Close ∷ [])) b (Close ∷ rest) ∙ append_assoc a (Close ∷ []) (b ++ (Close ∷ rest))))
    (closes (trees (of_collection {h = h} t) u) s)

ends : (n : ℕ) (items : List Entry) → is_inner n items ≡ true → Ends n items
ends zero [] e = at_end
ends zero (i ∷ items) e = absurd cc
ends (suc n) [] e = absurd cc
ends (suc n) (Open h ∷ items) e = on_open h (ends (suc (suc n)) items e)
ends (suc n) (Close ∷ items) e = closes no_tree (ends n items e)
ends (suc n) (Leaf f ∷ items) e = on_leaf f (ends (suc n) items e)
ends (suc n) (Kept t ∷ items) e = on_kept t (ends (suc n) items e)

collected : {items : List Entry} (h : Head) → Ends (suc zero) items → IsTree (Open h ∷ items)
collected h (closes t at_end) = of_collection t

pub tree : (items : List Entry) → is_geometry items ≡ true → IsTree items
tree [] e = absurd cc
tree (Open h ∷ items) e = collected h (ends 1 items e)
tree (Close ∷ items) e = absurd cc
tree (Leaf f ∷ []) e = of_leaf
tree (Leaf f ∷ i ∷ items) e = absurd cc
tree (Kept t ∷ []) e = of_kept
tree (Kept t ∷ i ∷ items) e = absurd cc

-- ---- features changed in their places

inner_mapped : {R S : Type 0} (g : FeatureOf R → FeatureOf S) (n : ℕ) (items : List (ItemOf R)) → is_inner n (map (in_item g) items) ≡ is_inner n items
inner_mapped g zero [] = refl
inner_mapped g zero (i ∷ items) = refl
inner_mapped g (suc n) [] = refl
inner_mapped g (suc n) (Open h ∷ items) = inner_mapped g (suc (suc n)) items
inner_mapped g (suc n) (Close ∷ items) = inner_mapped g n items
inner_mapped g (suc n) (Leaf f ∷ items) = inner_mapped g (suc n) items
inner_mapped g (suc n) (Kept t ∷ items) = inner_mapped g (suc n) items

pub geometry_mapped : {R S : Type 0} (g : FeatureOf R → FeatureOf S) (items : List (ItemOf R)) → is_geometry (map (in_item g) items) ≡ is_geometry items
geometry_mapped g [] = refl
geometry_mapped g (Open h ∷ items) = inner_mapped g 1 items
geometry_mapped g (Close ∷ items) = refl
geometry_mapped g (Leaf f ∷ items) = inner_mapped g 0 items
geometry_mapped g (Kept t ∷ items) = inner_mapped g 0 items

-- ---- texts

abbrev mutual
  pub tree_text : {is : List Entry} → IsTree is → Text
  tree_text (of_leaf {f = f}) = feature_text f
  tree_text (of_kept {t = t}) = t
  tree_text (of_collection {h = h} ts) = opening_text h ++ (commas (tree_texts ts) ++ closing_text h)

  pub tree_texts : {is : List Entry} → AreTrees is → List Text
  tree_texts no_tree = []
  tree_texts (trees t ts) = tree_text t ∷ tree_texts ts

-- texts with commas between them, and one before them where something stands before
abbrev joined : Bool → List Text → Text
joined true ts = further ts
joined false ts = commas ts

abbrev after : Bool → List Text → Bool
after more [] = more
after more (t ∷ ts) = true

after_true : (ts : List Text) → after true ts ≡ true
after_true [] = refl
after_true (t ∷ ts) = refl

nothing_joined : (more : Bool) (z : Text) → z ≡ joined more [] ++ z
nothing_joined true z = refl
nothing_joined false z = refl

one_joined : (more : Bool) (t : Text) (ts : List Text) (z : Text) → comma_if more ++ (t ++ (further ts ++ z)) ≡ joined more (t ∷ ts) ++ z
one_joined true t ts z = ap (λ y. 44 ∷ y) (sym (append_assoc t (further ts) z))
one_joined false t ts z = sym (append_assoc t (further ts) z)

regroup : (o c l z : Text) → o ++ (c ++ (l ++ z)) ≡ (o ++ (c ++ l)) ++ z
regroup o c l z = simp append_assoc

mutual
  tree_written : {is : List Entry} (t : IsTree is) (heads : List Head) (more : Bool) (rest : List Entry) → items_text heads more (is ++ rest) ≡ comma_if more ++ (tree_text t ++ items_text heads true rest)
  tree_written of_leaf heads more rest = refl
  tree_written of_kept heads more rest = refl
  tree_written (of_collection {h = h} {is = is} ts) heads more rest =
      ap (λ (z : Text). comma_if more ++ (opening_text h ++ z)) (ap (items_text (h ∷ heads) false) (append_assoc is (Close ∷ []) rest) ∙ trees_written ts (h ∷ heads) false (Close ∷ rest))
      ∙ ap (λ (z : Text). comma_if more ++ z) (regroup (opening_text h) (commas (tree_texts ts)) (closing_text h) (items_text heads true rest))

  trees_written : {is : List Entry} (ts : AreTrees is) (heads : List Head) (more : Bool) (rest : List Entry) → items_text heads more (is ++ rest) ≡ joined more (tree_texts ts) ++ items_text heads (after more (tree_texts ts)) rest
  trees_written no_tree heads more rest = nothing_joined more (items_text heads more rest)
  trees_written (trees {is = is} {js = js} t ts) heads more rest =
      ap (items_text heads more) (append_assoc is js rest) ∙ tree_written t heads more (js ++ rest)
      ∙ ap (λ (z : Text). comma_if more ++ (tree_text t ++ z)) (trees_written ts heads true rest ∙ ap (λ (b : Bool). further (tree_texts ts) ++ items_text heads b rest) (after_true (tree_texts ts)))
      ∙ one_joined more (tree_text t) (tree_texts ts) (items_text heads true rest)

-- a layer's text is that of its tree
pub layer_written : {items : List Entry} (t : IsTree items) → items_text [] false items ≡ tree_text t
layer_written {items = items} t = ap (items_text [] false) (sym (append-nil items)) ∙ tree_written t [] false [] ∙ append-nil (tree_text t)
