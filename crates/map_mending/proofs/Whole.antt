-- A mended topology is one of rings.
use Rattle.kit_words.proofs.Common.{◌≡◌, ℕ, suc, ◌+◌, ◌<◌, ◌≤◌, Bool, true, ◌||◌, List, [], ◌∷◌, ◌++◌, map, length}
use Rattle.kit_words.proofs.Common.{take, drop, refl, sym, ap, ap₂, ◌∙◌, arith, add-one, drop-cons, nat_le, IsTrue}
use Rattle.kit_words.proofs.Common.{AllZip, flat_map, filter_map, list_any, take-add, drop-drop, length-append}
use Rattle.kit_words.proofs.Common.{length-map, map-append, take_all, unwrap_or-slice_get, AllZip-long, leb-true}
use Rattle.std.specs.Prelude.{sum_by}
use Rattle.grid_geometry.specs.Common.{Position, Segment, segment_cmp}
use Rattle.ring_machine.specs.Common.{Feature, feature_of, features, size}
use Rattle.topo_outline.specs.Common.{LayerText, Piece, starts, ends, leaf, text, leaves_in, leaves}
use Rattle.topo_reader.specs.Common.{Polygons, Opened, document_of, IsOfRings}
use Rattle.topo_outline.specs.Common.{polygons_at, items_from, layers_from}
use Rattle.topo_reader.specs.Common.{IsOfWalks}
use Rattle.topo_reader.proofs.Common.{rings_within, rings_document, sum_within}
use Rattle.walk_faults.specs.Common.{ListsAll}
use Rattle.segment_paths.specs.Common.{PathOfSegment}
use Rattle.walk_mending.specs.Common.{is_bounding, is_bounding_in}
use Rattle.map_mending.specs.Common.{Parted, AreBounding, bounds_in, MendsPolygon, polygons_of_parts, TellsParted, polygons_by_feature}
use Rattle.map_mending.specs.Common.{TellsPartedIn, layers_after, with_mended}
use Rattle.map_mending.proofs.Pieces.{layers_count, document_mended}
use Rattle.map_mending.proofs.Features.{mended_formed, mended_keeps, mended_rings}

-- ---- the polygons of a document are those that were read

next_is : (all : List Polygons) (n k : ℕ) → n < length all
    → polygons_at all n ∷ take k (drop (n + 1) all) ≡ take (suc k) (drop n all)
next_is all n k lt =
    ap₂ (λ (p : Polygons) (m : ℕ). p ∷ take k (drop m all)) (unwrap_or-slice_get all n []) (add-one n)
    ∙ sym (ap (λ (z : List Polygons). take (suc k) z) (drop-cons all n [] lt))

items_polygons : (all : List Polygons) (n : ℕ) (ps : List Piece) → n + length (leaves_in ps) ≤ length all
    → map (λ (f : Feature). f.polygons) (filter_map feature_of (items_from n all ps)) ≡ take (length (leaves_in ps)) (drop n all)
unfolding leaves_in
items_polygons all n [] le = refl
items_polygons all n (starts head ∷ ps) le = items_polygons all n ps le
items_polygons all n (ends ∷ ps) le = items_polygons all n ps le
items_polygons all n (text t ∷ ps) le = items_polygons all n ps le
items_polygons all n (leaf form head node ∷ ps) le =
    ap (λ (z : List Polygons). polygons_at all n ∷ z) (items_polygons all (n + 1) ps (omega (arith, le)))
    ∙ next_is all n (length (leaves_in ps)) (omega (arith, le))

parts_of_take : (all : List Polygons) (n j k m : ℕ) → m ≡ j + k
    → take j (drop n all) ++ take k (drop (n + j) all) ≡ take m (drop n all)
parts_of_take all n j k m e =
    ap (λ (z : List Polygons). take j (drop n all) ++ take k z) (sym (drop-drop j n all))
    ∙ sym (take-add j k (drop n all))
    ∙ ap (λ (i : ℕ). take i (drop n all)) (sym e)

layers_polygons : (all : List Polygons) (n : ℕ) (ls : List LayerText) → n + length (leaves ls) ≤ length all
    → map (λ (f : Feature). f.polygons) (flat_map (λ l. filter_map feature_of l.items) (layers_from n all ls))
    ≡ take (length (leaves ls)) (drop n all)
unfolding leaves
layers_polygons all n [] le = refl
layers_polygons all n (l ∷ ls) le =
    let j = length (leaves_in l.pieces) in
    let k = length (leaves ls) in
    let both : length (leaves_in l.pieces ++ leaves ls) ≡ j + k = length-append (leaves_in l.pieces) (leaves ls) in
    map-append (λ (f : Feature). f.polygons) (filter_map feature_of (items_from n all l.pieces)) (flat_map (λ l'. filter_map feature_of l'.items) (layers_from (n + j) all ls))
    ∙ ap₂ (λ (y z : List Polygons). y ++ z) (items_polygons all n l.pieces (omega (arith, le, both))) (layers_polygons all (n + j) ls (omega (arith, le, both)))
    ∙ parts_of_take all n j k (length (leaves_in l.pieces ++ leaves ls)) both

-- each feature has its polygons
pub polygons_read : (o : Opened) → length o.polygons ≡ length (leaves o.layers) → polygons_by_feature (document_of o) ≡ o.polygons
polygons_read o e =
    layers_polygons o.polygons 0 o.layers (omega (arith, e))
    ∙ take_all (length (leaves o.layers)) o.polygons (omega (arith, e))

-- ---- the limits

module _ (paths : List PathOfSegment) (o : Opened) (mended : List Polygons) (told : List Parted) (t : TellsParted paths o.polygons mended told) where
  -- there is one list of polygons for each feature
  pub mended_counted : length o.polygons ≡ length (leaves o.layers) → length mended ≡ length (leaves (layers_after mended o.layers))
  mended_counted e =
      ap (λ (z : List Polygons). length z) t.joins ∙ length-map t.parts polygons_of_parts
      ∙ AllZip-long (AllZip (MendsPolygon paths)) o.polygons t.parts t.each
      ∙ e ∙ sym (layers_count mended o.layers)

  -- the document after it has as many positions as its polygons
  pub mended_size : length o.polygons ≡ length (leaves o.layers)
      → size (document_of (with_mended o mended)) ≡ sum_by (sum_by (sum_by length)) mended
  mended_size e =
      ap (λ (rs : List (List Position)). sum_by length rs)
      (rings_document mended (layers_after mended o.layers)
      ∙ ap (λ (qs : List Polygons). flat_map rings_within qs) (take_all (length (leaves (layers_after mended o.layers))) mended (omega (arith, mended_counted e))))
      ∙ sum_within length mended

  -- what was read with walks is of rings, once it is mended
  pub mended_of_rings : IsOfWalks o → nat_le (sum_by (sum_by (sum_by length)) mended) 4000000 ≡ true → IsOfRings (with_mended o mended)
  mended_of_rings w fits =
      let m = document_mended paths o mended told t in
      let d = document_of o in
      let e = document_of (with_mended o mended) in
      record {
        counted = mended_counted w.counted;
        formed = mended_formed paths d e m w.formed;
        keeps = mended_keeps paths d e m w.keeps;
        few = omega (arith, w.few, layers_count mended o.layers);
        are_rings = mended_rings paths d e m;
        small = omega (arith, mended_size w.counted, leb-true (sum_by (sum_by (sum_by length)) mended) 4000000 fits);
      }

  -- the list tells what was taken apart in the document
  pub mended_parts : length o.polygons ≡ length (leaves o.layers)
      → TellsPartedIn paths (document_of o) (document_of (with_mended o mended)) told
  mended_parts e =
      let before = polygons_read o e in
      let after = polygons_read (with_mended o mended) (mended_counted e) in
      rw (before, after) t

-- ---- the segments that bound

list_any-map : {X Y : Type 0} (p : Y → Bool) (h : X → Y) (xs : List X) → list_any p (map h xs) ≡ list_any (λ x. p (h x)) xs
list_any-map p h [] = refl
list_any-map p h (x ∷ xs) = ap (λ b. p (h x) || b) (list_any-map p h xs)

bounding_read : (o : Opened) → length o.polygons ≡ length (leaves o.layers) → (s : Segment)
    → bounds_in (document_of o) s ≡ is_bounding_in o.polygons s
bounding_read o e s =
    sym (list_any-map (list_any (λ walks. is_bounding walks s)) (λ (f : Feature). f.polygons) (features (document_of o)))
    ∙ ap (λ (ps : List Polygons). is_bounding_in ps s) (polygons_read o e)

-- those of the polygons that were read are those of the document
pub are_bounding : (o : Opened) (ss : List Segment) → length o.polygons ≡ length (leaves o.layers)
    → ListsAll segment_cmp (λ s. IsTrue (is_bounding_in o.polygons s)) ss → AreBounding (document_of o) ss
are_bounding o ss e h = record {
  ascending = h.ascending;
  all = λ s. (λ k. bounding_read o e s ∙ (h.all s).0 k, λ k. (h.all s).1 (sym (bounding_read o e s) ∙ k));
}
