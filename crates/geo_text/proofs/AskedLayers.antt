-- The layer that is asked for, found in the map's text, is that of the document.
use Rattle.kit_words.proofs.Common.{◌≡◌, ℕ, zero, suc, ◌+◌, ◌-◌, ◌++◌, ◌∙◌, ◌∷◌, [], Bool, true, false, if◌then◌else◌, List, length, map, take, filter, ap, sym, refl, Option, Result, Ok, Err}
use Rattle.grid_geometry.specs.Common.{Position}
use Rattle.ring_machine.specs.Common.{Close, Item, Kept, Layer, Leaf, Open, Text}
use Rattle.topo_outline.specs.Common.{LayerText, Piece, ends, items_from, layers_from, leaf, leaves_in, numbered, polygons_at, starts, text}
use Rattle.topo_reader.specs.Common.{Opened, document_of}
use Rattle.geo_text.specs.Exported.{layer_text}
use Rattle.geo_features.specs.Faults.{GeoFault, ◌>>=◌}
use Rattle.geo_text.specs.Found.{FoundText, asked_texts, head_of_pieces, head_or_none, inside_pieces, points_of}
use Rattle.geo_text.specs.Items.{begin_at, items_text}
use Rattle.geo_text.specs.Layer.{asked_from, asked_layer, front_of, is_asked, layer_head, layer_items, points_in, the_only}
use Rattle.geo_text.specs.Text.{geo_text, style_of}
use Rattle.geo_features.specs.Style.{Style}
use Rattle.geo_text.specs.Wants.{Wants}

abbrev Polys : Type 0
Polys = List (List (List (List Position)))

points_same : (all : Polys) (n : ℕ) (ps : List Piece) → points_in (items_from n all ps) ≡ points_of ps
points_same all n [] = refl
points_same all n (starts h ∷ ps) = points_same all n ps
points_same all n (ends ∷ ps) = points_same all n ps
points_same all n (leaf form head arcs ∷ ps) = points_same all (n + 1) ps
points_same all n (text t ∷ ps) = ap suc (points_same all n ps)

-- a layer that was found, as the document has it
abbrev pub as_layer : Polys → FoundText → ℕ × Layer
as_layer all found = (found.points, record { name = found.layer.name; items = items_from found.leaves all found.layer.pieces })

asked_same : (name : Option Text) (all : Polys) (leaves points : ℕ) (ls : List LayerText)
    → asked_from name points (layers_from leaves all ls) ≡ map (as_layer all) (asked_texts name leaves points ls)
unfolding asked_from asked_texts
asked_same name all leaves points [] = refl
asked_same name all leaves points (l ∷ ls) =
    by (is_asked name l.name) (asked_texts name (leaves + length (leaves_in l.pieces)) (points + points_of l.pieces) ls)
    (ap (λ n. asked_from name (points + n) (layers_from (leaves + length (leaves_in l.pieces)) all ls)) (points_same all leaves l.pieces)
    ∙ asked_same name all (leaves + length (leaves_in l.pieces)) (points + points_of l.pieces) ls)
  where
    one : FoundText
    one = record { layer = l; leaves = leaves; points = points }

    by : (b : Bool) {R : List (ℕ × Layer)} (S : List FoundText) → R ≡ map (as_layer all) S
        → (if b then (as_layer all one ∷ R) else R) ≡ map (as_layer all) (if b then (one ∷ S) else S)
    by true S e = ap (λ z. as_layer all one ∷ z) e
    by false S e = e

only_mapped : {A B : Type 0} (f : A → B) (xs : List A) → the_only (map f xs) ≡ (the_only xs >>= λ x. Ok (f x))
only_mapped f [] = refl
only_mapped f (x ∷ []) = refl
only_mapped f (x ∷ y ∷ xs) = refl

-- ---- its parts

taken : (all : Polys) (n k : ℕ) (ps : List Piece) → items_from n all (take k ps) ≡ take k (items_from n all ps)
taken all n zero ps = refl
taken all n (suc k) [] = refl
taken all n (suc k) (starts h ∷ ps) = ap (λ z. Open h ∷ z) (taken all n k ps)
taken all n (suc k) (ends ∷ ps) = ap (λ z. Close ∷ z) (taken all n k ps)
taken all n (suc k) (leaf form head arcs ∷ ps) = ap (λ z. Leaf (numbered n form head (polygons_at all n)) ∷ z) (taken all (n + 1) k ps)
taken all n (suc k) (text t ∷ ps) = ap (λ z. Kept t ∷ z) (taken all n k ps)

as_long : (all : Polys) (n : ℕ) (ps : List Piece) → length (items_from n all ps) ≡ length ps
as_long all n [] = refl
as_long all n (starts h ∷ ps) = ap suc (as_long all n ps)
as_long all n (ends ∷ ps) = ap suc (as_long all n ps)
as_long all n (leaf form head arcs ∷ ps) = ap suc (as_long all (n + 1) ps)
as_long all n (text t ∷ ps) = ap suc (as_long all n ps)

head_same : (all : Polys) (n : ℕ) (ps : List Piece) → layer_head (items_from n all ps) ≡ head_or_none (head_of_pieces ps)
head_same all n [] = refl
head_same all n (starts h ∷ ps) = refl
head_same all n (ends ∷ ps) = refl
head_same all n (leaf form head arcs ∷ ps) = refl
head_same all n (text t ∷ ps) = refl

items_same : (all : Polys) (n : ℕ) (ps : List Piece) → layer_items (items_from n all ps) ≡ items_from n all (inside_pieces ps)
items_same all n [] = refl
items_same all n (starts h ∷ ps) = ap (λ k. take (k - 1) (items_from n all ps)) (as_long all n ps) ∙ sym (taken all n (length ps - 1) ps)
items_same all n (ends ∷ ps) = refl
items_same all n (leaf form head arcs ∷ ps) = refl
items_same all n (text t ∷ ps) = refl

-- ---- the text

abbrev after_found : Style → Bool → Opened → ℕ × Layer → Result Text GeoFault
after_found s flattens o found = do
  front ← front_of found.1.name (layer_head found.1.items) o.members
  rest ← items_text flattens s (begin_at found.0) (layer_items found.1.items)
  Ok (front ++ rest)

text_same : (s : Style) (flattens : Bool) (o : Opened) (found : FoundText) → layer_text s flattens found o ≡ after_found s flattens o (as_layer o.polygons found)
text_same s flattens o found =
    rw (head_same o.polygons found.leaves found.layer.pieces, items_same o.polygons found.leaves found.layer.pieces) refl

-- the text by the layer that was found
pub text_by_found : (wants : Wants) (o : Opened) → geo_text wants (document_of o)
    ≡ (the_only (asked_texts wants.layer 0 0 o.layers) >>= λ found. style_of wants (document_of o) >>= λ s. layer_text s wants.flattens found o)
text_by_found wants o =
    ap (λ r. r >>= λ found. style_of wants (document_of o) >>= λ s. after_found s wants.flattens o found)
    (ap the_only (asked_same wants.layer o.polygons 0 0 o.layers) ∙ only_mapped (as_layer o.polygons) (asked_texts wants.layer 0 0 o.layers))
    ∙ by (the_only (asked_texts wants.layer 0 0 o.layers))
  where
    styled : (found : FoundText) (r : Result Style GeoFault)
        → (r >>= λ s. after_found s wants.flattens o (as_layer o.polygons found)) ≡ (r >>= λ s. layer_text s wants.flattens found o)
    styled found (Ok s) = sym (text_same s wants.flattens o found)
    styled found (Err e) = refl

    by : (r : Result FoundText GeoFault)
        → ((r >>= λ found. Ok (as_layer o.polygons found)) >>= λ found. style_of wants (document_of o) >>= λ s. after_found s wants.flattens o found)
        ≡ (r >>= λ found. style_of wants (document_of o) >>= λ s. layer_text s wants.flattens found o)
    by (Ok found) = styled found (style_of wants (document_of o))
    by (Err e) = refl
