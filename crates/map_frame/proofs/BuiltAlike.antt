-- What was read can stand as a frame: the document is well formed whatever its rings are.
use Rattle.kit_words.proofs.Common.{◌≡◌, ◌∙◌, ℕ, zero, suc, ◌+◌, refl, sym, ap, ap₂, arith, List, [], ◌∷◌}
use Rattle.kit_words.proofs.Common.{length, map, Option, ◌≤◌, get_or, drop, ◌&&◌, ◌==◌, Vec, flat_map, filter_map}
use Rattle.kit_words.proofs.Common.{list_all, length-map, list_all-append}
use Rattle.ring_machine.specs.Common.{Polygon, MultiPolygon, Null, feature_of, features, is_inner, is_geometry}
use Rattle.ring_machine.specs.Common.{fits_form, Text, Member, WellFormed}
use Rattle.map_frame.specs.Common.{polygon_numbers, feature_numbers, opened, CanStand}
use Rattle.topo_outline.specs.Outline.{leaves_in}
use Rattle.topo_outline.specs.Shape.{LayerText, Piece, starts, ends, leaf, text}
use Rattle.topo_outline.specs.declared.document.RawLayer.{RawLayer}
use Rattle.topo_outline.specs.Common.{leaves, view_layer}
use Rattle.topo_outline.specs.Common.{polygons_at, items_from, layers_from}
use Rattle.ring_machine.proofs.Common.{numbered_distinct}
use Rattle.map_frame.proofs.BuiltNumbers.{layers_numbered}

module _ {R S : Type 0} where
  at_length : (all : List (List (List R))) (other : List (List (List S))) → map length all ≡ map length other → (n : ℕ)
      → length (polygons_at all n) ≡ length (polygons_at other n)
  at_length [] [] e n = refl
  at_length [] (y ∷ ys) e n = absurd cc
  at_length (x ∷ xs) [] e n = absurd cc
  at_length (x ∷ xs) (y ∷ ys) e zero = ap (λ (l : List ℕ). get_or l 0 0) e
  at_length (x ∷ xs) (y ∷ ys) e (suc n) = at_length xs ys (ap (λ (l : List ℕ). drop 1 l) e) n

  module _ (all : List (List (List R))) (other : List (List (List S))) (e : map length all ≡ map length other) where
    inner_same : (k n : ℕ) (ps : List Piece) → is_inner k (items_from n all ps) ≡ is_inner k (items_from n other ps)
    inner_same zero n (ends ∷ ps) = refl
    inner_same (suc k) n (starts h ∷ ps) = inner_same (suc (suc k)) n ps
    inner_same (suc k) n (ends ∷ ps) = inner_same k n ps
    inner_same (suc k) n (leaf form h arcs ∷ ps) = inner_same (suc k) (n + 1) ps
    inner_same (suc k) n (text t ∷ ps) = inner_same (suc k) n ps
    inner_same _ n _ = refl

    geometry_same : (n : ℕ) (ps : List Piece) → is_geometry (items_from n all ps) ≡ is_geometry (items_from n other ps)
    geometry_same n (starts h ∷ ps) = inner_same 1 n ps
    geometry_same n (leaf form h arcs ∷ ps) = inner_same 0 (n + 1) ps
    geometry_same n (text t ∷ ps) = inner_same 0 n ps
    geometry_same n _ = refl

    forms_same : (n : ℕ) (ps : List Piece)
        → list_all fits_form (filter_map feature_of (items_from n all ps)) ≡ list_all fits_form (filter_map feature_of (items_from n other ps))
    forms_same n [] = refl
    forms_same n (leaf Polygon h arcs ∷ ps) = ap₂ (λ k b. (k == 1) && b) (at_length all other e n) (forms_same (n + 1) ps)
    forms_same n (leaf MultiPolygon h arcs ∷ ps) = forms_same (n + 1) ps
    forms_same n (leaf Null h arcs ∷ ps) = ap₂ (λ k b. (k == 0) && b) (at_length all other e n) (forms_same (n + 1) ps)
    forms_same n (p ∷ ps) = forms_same n ps

    layers_geometries : (n : ℕ) (ls : List LayerText)
        → list_all (λ l. is_geometry l.items) (layers_from n all ls) ≡ list_all (λ l. is_geometry l.items) (layers_from n other ls)
    layers_geometries n [] = refl
    layers_geometries n (l ∷ ls) = ap₂ (λ y z. y && z) (geometry_same n l.pieces) (layers_geometries (n + length (leaves_in l.pieces)) ls)

    layers_forms : (n : ℕ) (ls : List LayerText)
        → list_all fits_form (flat_map (λ l. filter_map feature_of l.items) (layers_from n all ls))
        ≡ list_all fits_form (flat_map (λ l. filter_map feature_of l.items) (layers_from n other ls))
    layers_forms n [] = refl
    layers_forms n (l ∷ ls) =
        let m = n + length (leaves_in l.pieces) in
        list_all-append fits_form (filter_map feature_of (items_from n all l.pieces)) (flat_map (λ l. filter_map feature_of l.items) (layers_from m all ls))
        ∙ ap₂ (λ y z. y && z) (forms_same n l.pieces) (layers_forms m ls)
        ∙ sym (list_all-append fits_form (filter_map feature_of (items_from n other l.pieces)) (flat_map (λ l. filter_map feature_of l.items) (layers_from m other ls)))

-- how many elements each list has
pub lengths_of : {X Y : Type 0} (h : X → List Y) (g : X → ℕ) → ((x : X) → length (h x) ≡ g x) → (xs : List X)
    → map length (map h xs) ≡ map g xs
lengths_of h g same [] = refl
lengths_of h g same (x ∷ xs) = ap₂ (λ (y : ℕ) (ys : List ℕ). y ∷ ys) (same x) (lengths_of h g same xs)

module _ {A R : Type 0} where
  -- what was read can stand with as many polygons of ring numbers for each feature
  pub alike_stand : (transform : Option Text) (layers : List (RawLayer A)) (members : List Member) (all : List (List (List R))) (ns : List (Vec (Vec ℕ A) A))
      → length all ≡ length (leaves (map view_layer layers)) → length (leaves (map view_layer layers)) ≤ 200000
      → WellFormed (record { transform = transform; layers = layers_from 0 all (map view_layer layers); members = members })
      → map (λ n. length n.items) ns ≡ map length all
      → CanStand transform layers members ns
  alike_stand transform layers members all ns counted few formed e =
      let numbers = map feature_numbers ns in
      let ls = map view_layer layers in
      let alike : map length numbers ≡ map length all =
      lengths_of feature_numbers (λ n. length n.items) (λ n. length-map n.items polygon_numbers) ns ∙ e in
      let long : length ns ≡ length all =
      sym (length-map ns (λ n. length n.items)) ∙ ap length e ∙ length-map all length in
      record {
        counted = long ∙ counted;
        few = omega (arith, long, counted, few);
        formed = record {
          geometries = layers_geometries numbers all alike 0 ls ∙ formed.geometries;
          forms = layers_forms numbers all alike 0 ls ∙ formed.forms;
          numbers = numbered_distinct 0 (features (opened transform layers members ns)) (layers_numbered 0 numbers ls);
        };
      }
