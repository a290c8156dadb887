-- The numbers of features that were built: 0, 1, 2 and so on in the order of the text.
use Rattle.kit_words.proofs.Common.{◌≡◌, ◌≢◌, ◌∙◌, ℕ, ◌+◌, ◌<◌, ◌≤◌, refl, sym, ap, ap₂, arith, List, [], ◌∷◌, length}
use Rattle.kit_words.proofs.Common.{Some, option_map, Bool, true, false, cond, ◌&&◌, ◌||◌, ◌==◌, not, slice_get}
use Rattle.kit_words.proofs.Common.{flat_map, filter_map, list_any, find, AllByRecursion, nat_tests, length-append}
use Rattle.kit_words.proofs.Common.{slice_get_past, slice_get-get_or, unwrap_or-slice_get, all_joined}
use Rattle.ring_machine.specs.Common.{FeatureOf, ItemOf, LayerOf, feature_of, are_distinct}
use Rattle.ring_machine.proofs.Common.{AreNumbered, numbered-append}
use Rattle.topo_outline.specs.Outline.{leaves_in, leaves}
use Rattle.topo_outline.specs.Shape.{Piece, leaf, LayerText}
use Rattle.topo_outline.specs.Common.{polygons_at, items_from, layers_from}
use Rattle.map_frame.proofs.Built.{AreFrom}

-- ---- numbers in order

from_le : (n m : ℕ) (xs : List ℕ) → AreFrom n xs m → n ≤ m
from_le n m [] h = omega (arith, h)
from_le n m (x ∷ xs) h = omega (arith, from_le (n + 1) m xs h.1)

pub from_below : (n m : ℕ) (xs : List ℕ) → AreFrom n xs m → AllByRecursion (λ x. x < m) xs
from_below n m [] h = tt
from_below n m (x ∷ xs) h = (omega (arith, h.0, from_le (n + 1) m xs h.1), from_below (n + 1) m xs h.1)

other : (m k : ℕ) → k < m → (m == k) ≡ false
other m k l = grind (arith, nat_tests)

lacks : (k n m : ℕ) (xs : List ℕ) → AreFrom n xs m → k < n → list_any (λ y. y == k) xs ≡ false
lacks k n m [] h l = refl
lacks k n m (x ∷ xs) h l =
    ap₂ (λ y z. y || z) (ap (λ z. z == k) h.0 ∙ other n k l) (lacks k (n + 1) m xs h.1 (omega (arith, l)))

pub from_distinct : (n m : ℕ) (xs : List ℕ) → AreFrom n xs m → are_distinct xs ≡ true
from_distinct n m [] h = refl
from_distinct n m (x ∷ xs) h =
    ap₂ (λ y z. not y && z) (lacks x (n + 1) m xs h.1 (omega (arith, h.0))) (from_distinct (n + 1) m xs h.1)

-- ---- the features of what was read

module _ {R : Type 0} where
  abbrev within_items : List (ItemOf R) → List (FeatureOf R)
  within_items is = filter_map feature_of is

  abbrev within_layers : List (LayerOf R) → List (FeatureOf R)
  within_layers ls = flat_map (λ l. filter_map feature_of l.items) ls

  -- the feature has the polygons with its number
  abbrev HasOwn : List (List (List R)) → FeatureOf R → Type 0
  HasOwn all f = f.polygons ≡ polygons_at all f.number

  items_length : (n : ℕ) (all : List (List (List R))) (ps : List Piece)
      → length (within_items (items_from n all ps)) ≡ length (leaves_in ps)
  unfolding leaves_in
  items_length n all [] = refl
  items_length n all (leaf form head node ∷ ps) = omega (arith, items_length (n + 1) all ps)
  items_length n all (p ∷ ps) = items_length n all ps

  items_numbered : (n : ℕ) (all : List (List (List R))) (ps : List Piece)
      → AreNumbered n (within_items (items_from n all ps))
  items_numbered n all [] = tt
  items_numbered n all (leaf form head node ∷ ps) = (refl, items_numbered (n + 1) all ps)
  items_numbered n all (p ∷ ps) = items_numbered n all ps

  items_own : (n : ℕ) (all : List (List (List R))) (ps : List Piece)
      → AllByRecursion (HasOwn all) (within_items (items_from n all ps))
  items_own n all [] = tt
  items_own n all (leaf form head node ∷ ps) = (refl, items_own (n + 1) all ps)
  items_own n all (p ∷ ps) = items_own n all ps

  pub layers_length : (n : ℕ) (all : List (List (List R))) (ls : List LayerText)
      → length (within_layers (layers_from n all ls)) ≡ length (leaves ls)
  unfolding leaves
  layers_length n all [] = refl
  layers_length n all (l ∷ ls) =
      length-append (within_items (items_from n all l.pieces)) (within_layers (layers_from (n + length (leaves_in l.pieces)) all ls))
      ∙ ap₂ (λ (y z : ℕ). y + z) (items_length n all l.pieces) (layers_length (n + length (leaves_in l.pieces)) all ls)
      ∙ sym (length-append (leaves_in l.pieces) (leaves ls))

  pub layers_numbered : (n : ℕ) (all : List (List (List R))) (ls : List LayerText)
      → AreNumbered n (within_layers (layers_from n all ls))
  layers_numbered n all [] = tt
  layers_numbered n all (l ∷ ls) =
      numbered-append n (n + length (leaves_in l.pieces)) (within_items (items_from n all l.pieces)) (within_layers (layers_from (n + length (leaves_in l.pieces)) all ls))
      (items_numbered n all l.pieces) (layers_numbered (n + length (leaves_in l.pieces)) all ls)
      (ap (λ z. n + z) (sym (items_length n all l.pieces)))

  layers_own : (n : ℕ) (all : List (List (List R))) (ls : List LayerText)
      → AllByRecursion (HasOwn all) (within_layers (layers_from n all ls))
  layers_own n all [] = tt
  layers_own n all (l ∷ ls) =
      all_joined (HasOwn all) (within_items (items_from n all l.pieces)) (within_layers (layers_from (n + length (leaves_in l.pieces)) all ls))
      (items_own n all l.pieces) (layers_own (n + length (leaves_in l.pieces)) all ls)

  there : (all : List (List (List R))) (m : ℕ) → m < length all → Some (polygons_at all m) ≡ slice_get all m
  there all m l = ap Some (unwrap_or-slice_get all m []) ∙ sym (slice_get-get_or all m [] l)

  found : (all : List (List (List R))) (m n : ℕ) (fs : List (FeatureOf R)) → AreNumbered n fs → AllByRecursion (HasOwn all) fs
      → n + length fs ≡ length all → n ≤ m
      → option_map (λ f. f.polygons) (find (λ f. f.number == m) fs) ≡ slice_get all m
  found all m n [] h own long l = sym (slice_get_past all m (omega (arith, long, l)))
  found all m n (f ∷ fs) h own long l = by (f.number == m) refl (found all m (n + 1) fs h.1 own.1 (omega (arith, long)))
    where
      same : (a b : ℕ) → (a == b) ≡ true → a ≡ b
      same a b e = grind (arith, nat_tests)

      differs : (a b : ℕ) → (a == b) ≡ false → a ≢ b
      differs a b e = grind (arith, nat_tests)

      by : (b : Bool) → (f.number == m) ≡ b
          → (n + 1 ≤ m → option_map (λ f. f.polygons) (find (λ f. f.number == m) fs) ≡ slice_get all m)
          → option_map (λ f. f.polygons) (cond b (Some f) (find (λ f. f.number == m) fs)) ≡ slice_get all m
      by true e rest =
          let is : f.number ≡ m = same f.number m e in
          ap Some (own.0 ∙ ap (polygons_at all) is) ∙ there all m (omega (arith, h.0, is, long))
      by false e rest =
          let not_here : n ≢ m = λ z. differs f.number m e (h.0 ∙ z) in
          rest (above not_here)
        where
          above : n ≢ m → n + 1 ≤ m
          above d = omega (arith, l)

  -- the polygons of a feature are those with its number
  pub polygons_found : (all : List (List (List R))) (ls : List LayerText) → length all ≡ length (leaves ls) → (m : ℕ)
      → option_map (λ f. f.polygons) (find (λ f. f.number == m) (within_layers (layers_from 0 all ls))) ≡ slice_get all m
  polygons_found all ls long m =
      found all m 0 (within_layers (layers_from 0 all ls)) (layers_numbered 0 all ls) (layers_own 0 all ls)
      (omega (arith, long, layers_length 0 all ls)) (omega arith)
