-- The rings of a document are those that were read, feature by feature.
use Rattle.kit_words.proofs.Common.{◌≡◌, ℕ, zero, suc, ◌+◌, Bool, arith, List, [], ◌∷◌, ◌++◌, length, take, drop}
use Rattle.kit_words.proofs.Common.{get_or, refl, sym, ap, ap₂, ◌∙◌, ◌&&◌, add-one, list_all, flat_map, filter_map}
use Rattle.kit_words.proofs.Common.{take-add, drop-drop, length-append, take_all, flat_map-append, list_all-append}
use Rattle.kit_words.proofs.Common.{sum_by-cons, sum_by-append, unwrap_or-slice_get}
use Rattle.std.specs.Prelude.{sum_by}
use Rattle.grid_geometry.specs.Common.{Position}
use Rattle.ring_machine.specs.Common.{ItemOf, LayerOf, feature_of, rings_of}
use Rattle.topo_outline.specs.Common.{LayerText, Piece, leaf, leaves_in, leaves}
use Rattle.topo_reader.specs.Common.{Polygons}
use Rattle.topo_outline.specs.Common.{polygons_at, items_from, layers_from}

module _ {R : Type 0} where
  abbrev within_items : List (ItemOf R) → List R
  within_items is = flat_map rings_of (filter_map feature_of is)

  abbrev within_layers : List (LayerOf R) → List R
  within_layers ls = flat_map rings_of (flat_map (λ l. filter_map feature_of l.items) ls)

  -- the rings of one feature
  abbrev pub rings_within : List (List R) → List R
  rings_within ps = flat_map (λ polygon. polygon) ps

  take-nil : (k : ℕ) → take {A = List (List R)} k [] ≡ []
  take-nil k = take_all {A = List (List R)} k [] (omega arith)

  -- the polygons of feature n, and those of the features after it
  at_place : (all : List (List (List R))) (n k : ℕ)
      → rings_within (polygons_at all n) ++ flat_map rings_within (take k (drop (suc n) all))
      ≡ flat_map rings_within (take (suc k) (drop n all))
  at_place all n k = rw (unwrap_or-slice_get all n []) (by all n)
    where
      by : (all : List (List (List R))) (n : ℕ)
          → rings_within (get_or all n []) ++ flat_map rings_within (take k (drop (suc n) all))
          ≡ flat_map rings_within (take (suc k) (drop n all))
      by [] zero = ap (λ (ps : List (List (List R))). flat_map rings_within ps) (take-nil k)
      by [] (suc n) = ap (λ (ps : List (List (List R))). flat_map rings_within ps) (take-nil k)
      by (ps ∷ all) zero = refl
      by (ps ∷ all) (suc n) = by all n

  -- the rings of the items whose features are numbered from n
  items_rings : (all : List (List (List R))) (n : ℕ) (ps : List Piece)
      → within_items (items_from n all ps)
      ≡ flat_map rings_within (take (length (leaves_in ps)) (drop n all))
  unfolding leaves_in
  items_rings all n [] = refl
  items_rings all n (leaf form head node ∷ ps) =
      ap (λ (rs : List R). rings_within (polygons_at all n) ++ rs) (items_rings all (n + 1) ps ∙ ap (λ (m : ℕ). flat_map rings_within (take (length (leaves_in ps)) (drop m all))) (add-one n))
      ∙ at_place all n (length (leaves_in ps))
  items_rings all n (_ ∷ ps) = items_rings all n ps

  layers_rings : (all : List (List (List R))) (n : ℕ) (ls : List LayerText)
      → within_layers (layers_from n all ls)
      ≡ flat_map rings_within (take (length (leaves ls)) (drop n all))
  unfolding leaves
  layers_rings all n [] = refl
  layers_rings all n (l ∷ ls) =
      flat_map-append rings_of (filter_map feature_of (items_from n all l.pieces)) (flat_map (λ l'. filter_map feature_of l'.items) (layers_from (n + length (leaves_in l.pieces)) all ls))
      ∙ ap₂ (λ (rs ss : List R). rs ++ ss) (items_rings all n l.pieces) (layers_rings all (n + length (leaves_in l.pieces)) ls)
      ∙ sym (split (length (leaves_in l.pieces)) (length (leaves ls)) (length (leaves_in l.pieces ++ leaves ls)) (length-append (leaves_in l.pieces) (leaves ls)))
    where
      split : (j k m : ℕ) → m ≡ j + k
          → flat_map rings_within (take m (drop n all))
          ≡ flat_map rings_within (take j (drop n all)) ++ flat_map rings_within (take k (drop (n + j) all))
      split j k m e =
          ap (λ (i : ℕ). flat_map rings_within (take i (drop n all))) e
          ∙ ap (λ (ps : List (List (List R))). flat_map rings_within ps) (take-add j k (drop n all) ∙ ap (λ (ps : List (List (List R))). take j (drop n all) ++ take k ps) (drop-drop j n all))
          ∙ flat_map-append rings_within (take j (drop n all)) (take k (drop (n + j) all))

  -- the rings of all layers are those of as many features
  pub rings_document : (all : List (List (List R))) (ls : List LayerText)
      → within_layers (layers_from 0 all ls) ≡ flat_map rings_within (take (length (leaves ls)) all)
  rings_document all ls = layers_rings all 0 ls

-- ---- tests and sums over all rings

all_joined : {A : Type 0} (t : A → Bool) (xss : List (List A)) → list_all t (flat_map (λ xs. xs) xss) ≡ list_all (list_all t) xss
all_joined t [] = refl
all_joined t (xs ∷ xss) = list_all-append t xs (flat_map (λ ys. ys) xss) ∙ ap (λ b. list_all t xs && b) (all_joined t xss)

pub all_within : (t : List Position → Bool) (all : List Polygons) → list_all t (flat_map rings_within all) ≡ list_all (list_all (list_all t)) all
all_within t [] = refl
all_within t (ps ∷ all) =
    list_all-append t (rings_within ps) (flat_map rings_within all) ∙ ap₂ (λ a b. a && b) (all_joined t ps) (all_within t all)

sum_joined : {A : Type 0} (h : A → ℕ) (xss : List (List A)) → sum_by h (flat_map (λ xs. xs) xss) ≡ sum_by (sum_by h) xss
sum_joined h [] = refl
sum_joined h (xs ∷ xss) =
    sum_by-append h xs (flat_map (λ ys. ys) xss) ∙ ap (λ (n : ℕ). sum_by h xs + n) (sum_joined h xss) ∙ sym (sum_by-cons (sum_by h) xs xss)

pub sum_within : (h : List Position → ℕ) (all : List Polygons) → sum_by h (flat_map rings_within all) ≡ sum_by (sum_by (sum_by h)) all
sum_within h [] = refl
sum_within h (ps ∷ all) =
    sum_by-append h (rings_within ps) (flat_map rings_within all)
    ∙ ap₂ (λ (m n : ℕ). m + n) (sum_joined h ps) (sum_within h all) ∙ sym (sum_by-cons (sum_by (sum_by h)) ps all)
