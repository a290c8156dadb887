-- A mended document is well formed, keeps its texts, and has rings.
use Rattle.kit_words.proofs.Common.{◌≡◌, ℕ, zero, suc, Bool, true, false, List, [], ◌∷◌, map, length, refl, sym, ap}
use Rattle.kit_words.proofs.Common.{ap₂, ◌∙◌, subst, ◌&&◌, arith, ◌==◌, nat_le, if◌then◌else◌, AllZip, AllByRecursion}
use Rattle.kit_words.proofs.Common.{flat_map, filter_map, list_all, nat_tests, list_all-append, flat_map-append}
use Rattle.kit_words.proofs.Common.{and_parts, leb-true, zip_joined}
use Rattle.grid_geometry.specs.Common.{Position}
use Rattle.ring_machine.specs.Common.{is_ring, is_distinct, canonical, Form, Polygon, MultiPolygon, Null, Feature, Item}
use Rattle.ring_machine.specs.Common.{Layer, Document, Open, Close, Leaf, Kept, feature_of, features, rings_of, rings}
use Rattle.ring_machine.specs.Common.{is_inner, is_geometry, fits_form, are_distinct, WellFormed}
use Rattle.ring_machine.proofs.Common.{canonical_is_ring}
use Rattle.topo_outline.specs.declared.members.Owner.TheVariants as owner
use Rattle.topo_outline.specs.Common.{IsName, IfThere, IsKeptTransform, AreKeptMembers, IsKeptHead, owner_of, head_of}
use Rattle.topo_outline.specs.Common.{KeepsItem, KeepsTexts}
use Rattle.topo_reader.specs.Common.{Polygons, is_simple}
use Rattle.segment_paths.specs.Common.{PathOfSegment}
use Rattle.walk_mending.specs.Common.{IsMended, stays, parted}
use Rattle.map_mending.specs.Common.{MendsPolygon, MendsPolygons, MendsFeature, MendsItem, MendsLayer, Mended, polygons_of_parts}
use Rattle.map_mending.specs.Common.{form_after}

some_left : (n : ℕ) → (suc n == 0) ≡ true → ⊥
some_left n e = grind (arith, nat_tests)

-- ---- the features

module _ (paths : List PathOfSegment) where
  items_features : (is js : List Item) → AllZip (MendsItem paths) is js
      → AllZip (MendsFeature paths) (filter_map feature_of is) (filter_map feature_of js)
  items_features [] [] h = tt
  items_features [] (j ∷ js) h = absurd h
  items_features (i ∷ is) [] h = absurd h
  items_features (Open head ∷ is) (j ∷ js) h = rw h.0 (items_features is js h.1)
  items_features (Close ∷ is) (j ∷ js) h = rw h.0 (items_features is js h.1)
  items_features (Kept t ∷ is) (j ∷ js) h = rw h.0 (items_features is js h.1)
  items_features (Leaf f ∷ is) (j ∷ js) h = rw (h.0).2 ((h.0).1, items_features is js h.1)

  layers_features : (ls ms : List Layer) → AllZip (MendsLayer paths) ls ms
      → AllZip (MendsFeature paths) (flat_map (λ l. filter_map feature_of l.items) ls) (flat_map (λ l. filter_map feature_of l.items) ms)
  layers_features [] [] h = tt
  layers_features [] (m ∷ ms) h = absurd h
  layers_features (l ∷ ls) [] h = absurd h
  layers_features (l ∷ ls) (m ∷ ms) h =
      zip_joined (MendsFeature paths) (filter_map feature_of l.items) (flat_map (λ l'. filter_map feature_of l'.items) ls)
      (filter_map feature_of m.items) (flat_map (λ l'. filter_map feature_of l'.items) ms)
      (items_features l.items m.items (h.0).items) (layers_features ls ms h.1)

  pub features_mended : (d e : Document) → Mended paths d e → AllZip (MendsFeature paths) (features d) (features e)
  features_mended d e h = layers_features d.layers e.layers h.layers

  -- ---- well formed

  inner_same : (n : ℕ) (is js : List Item) → AllZip (MendsItem paths) is js → is_inner n js ≡ is_inner n is
  inner_same n [] [] h = refl
  inner_same n [] (j ∷ js) h = absurd h
  inner_same n (i ∷ is) [] h = absurd h
  inner_same zero (i ∷ is) (j ∷ js) h = refl
  inner_same (suc n) (Open head ∷ is) (j ∷ js) h = rw h.0 (inner_same (suc (suc n)) is js h.1)
  inner_same (suc n) (Close ∷ is) (j ∷ js) h = rw h.0 (inner_same n is js h.1)
  inner_same (suc n) (Kept t ∷ is) (j ∷ js) h = rw h.0 (inner_same (suc n) is js h.1)
  inner_same (suc n) (Leaf f ∷ is) (j ∷ js) h = rw (h.0).2 (inner_same (suc n) is js h.1)

  geometry_same : (is js : List Item) → AllZip (MendsItem paths) is js → is_geometry js ≡ is_geometry is
  geometry_same [] [] h = refl
  geometry_same [] (j ∷ js) h = absurd h
  geometry_same (i ∷ is) [] h = absurd h
  geometry_same (Open head ∷ is) (j ∷ js) h = rw h.0 (inner_same 1 is js h.1)
  geometry_same (Close ∷ is) (j ∷ js) h = rw h.0 refl
  geometry_same (Kept t ∷ is) (j ∷ js) h = rw h.0 (inner_same 0 is js h.1)
  geometry_same (Leaf f ∷ is) (j ∷ js) h = rw (h.0).2 (inner_same 0 is js h.1)

  geometries_same : (ls ms : List Layer) → AllZip (MendsLayer paths) ls ms
      → list_all (λ l. is_geometry l.items) ms ≡ list_all (λ l. is_geometry l.items) ls
  geometries_same [] [] h = refl
  geometries_same [] (m ∷ ms) h = absurd h
  geometries_same (l ∷ ls) [] h = absurd h
  geometries_same (l ∷ ls) (m ∷ ms) h =
      ap₂ (λ a b. a && b) (geometry_same l.items m.items (h.0).items) (geometries_same ls ms h.1)

  -- a feature with no polygon has none in its place
  none_joined : (ps qs : Polygons) → MendsPolygons paths ps qs → (length ps == 0) ≡ true → (length qs == 0) ≡ true
  none_joined [] qs h e = by h.parts h.mended h.joins
    where
      by : (parts : List Polygons) → AllZip (MendsPolygon paths) [] parts → qs ≡ polygons_of_parts parts → (length qs == 0) ≡ true
      by [] k j = ap (λ (z : Polygons). length z == 0) j
      by (p ∷ parts) k j = absurd k
  none_joined (p ∷ ps) qs h e = absurd (some_left (length ps) e)

  pub form_fits : (form : Form) (f : Feature) (ps qs : Polygons) → fits_form (record f { form = form; polygons = ps }) ≡ true
      → MendsPolygons paths ps qs → fits_form (record f { form = form_after form (length qs); polygons = qs }) ≡ true
  form_fits Polygon f ps qs h k = by (length qs == 1) refl
    where
      by : (b : Bool) → (length qs == 1) ≡ b → fits_form (record f { form = if b then Polygon else MultiPolygon; polygons = qs }) ≡ true
      by true e = e
      by false e = refl
  form_fits MultiPolygon f ps qs h k = refl
  form_fits Null f ps qs h k = none_joined ps qs k h

  all_fit : (fs gs : List Feature) → AllZip (MendsFeature paths) fs gs → list_all fits_form fs ≡ true → list_all fits_form gs ≡ true
  all_fit [] [] h e = refl
  all_fit [] (g ∷ gs) h e = absurd h
  all_fit (f ∷ fs) [] h e = absurd h
  all_fit (f ∷ fs) (g ∷ gs) h e =
      let two = and_parts (fits_form f) (list_all fits_form fs) e in
      let m = h.0 in
      ap₂ (λ a b. a && b) (ap (λ (z : Feature). fits_form z) m.result ∙ form_fits f.form f f.polygons m.polygons two.0 m.mended)
      (all_fit fs gs h.1 two.1)

  numbers_same : (fs gs : List Feature) → AllZip (MendsFeature paths) fs gs → map (λ f. f.number) gs ≡ map (λ f. f.number) fs
  numbers_same [] [] h = refl
  numbers_same [] (g ∷ gs) h = absurd h
  numbers_same (f ∷ fs) [] h = absurd h
  numbers_same (f ∷ fs) (g ∷ gs) h =
      let m = h.0 in
      ap₂ (λ (n : ℕ) (ns : List ℕ). n ∷ ns) (ap (λ (z : Feature). z.number) m.result) (numbers_same fs gs h.1)

  pub mended_formed : (d e : Document) → Mended paths d e → WellFormed d → WellFormed e
  mended_formed d e h w =
      let fs = features_mended d e h in
      record {
        geometries = geometries_same d.layers e.layers h.layers ∙ w.geometries;
        forms = all_fit (features d) (features e) fs w.forms;
        numbers = ap are_distinct (numbers_same (features d) (features e) fs) ∙ w.numbers;
      }

  -- ---- texts

  form_owner : (form : Form) (n : ℕ) → owner_of (form_after form n) ≡ owner_of form
  form_owner Polygon n = by (n == 1)
    where
      by : (b : Bool) → owner_of (if b then Polygon else MultiPolygon) ≡ owner_of Polygon
      by true = refl
      by false = refl
  form_owner MultiPolygon n = refl
  form_owner Null n = refl

  leaf_keeps : (f g : Feature) → MendsFeature paths f g → IsKeptHead (owner_of f.form) (head_of f)
      → IsKeptHead (owner_of g.form) (head_of g)
  leaf_keeps f g m k =
      subst (λ (z : Feature). IsKeptHead (owner_of z.form) (head_of z)) (sym m.result)
      (subst (λ o. IsKeptHead o (head_of f)) (sym (form_owner f.form (length m.polygons))) k)

  items_keep : (is js : List Item) → AllZip (MendsItem paths) is js → AllByRecursion KeepsItem is → AllByRecursion KeepsItem js
  items_keep [] [] h k = tt
  items_keep [] (j ∷ js) h k = absurd h
  items_keep (i ∷ is) [] h k = absurd h
  items_keep (Open head ∷ is) (j ∷ js) h k = (subst KeepsItem (sym h.0) k.0, items_keep is js h.1 k.1)
  items_keep (Close ∷ is) (j ∷ js) h k = (subst KeepsItem (sym h.0) k.0, items_keep is js h.1 k.1)
  items_keep (Kept t ∷ is) (j ∷ js) h k = (subst KeepsItem (sym h.0) k.0, items_keep is js h.1 k.1)
  items_keep (Leaf f ∷ is) (j ∷ js) h k =
      (subst KeepsItem (sym (h.0).2) (leaf_keeps f (h.0).0 (h.0).1 k.0), items_keep is js h.1 k.1)

  layers_keep : (ls ms : List Layer) → AllZip (MendsLayer paths) ls ms → AllByRecursion (λ l. AllByRecursion KeepsItem l.items) ls
      → AllByRecursion (λ l. AllByRecursion KeepsItem l.items) ms
  layers_keep [] [] h k = tt
  layers_keep [] (m ∷ ms) h k = absurd h
  layers_keep (l ∷ ls) [] h k = absurd h
  layers_keep (l ∷ ls) (m ∷ ms) h k = (items_keep l.items m.items (h.0).items k.0, layers_keep ls ms h.1 k.1)

  layers_named : (ls ms : List Layer) (names : List (List ℕ)) → AllZip (MendsLayer paths) ls ms
      → AllZip (λ l t. IsName l.name t) ls names → AllZip (λ l t. IsName l.name t) ms names
  layers_named [] [] names h k = k
  layers_named [] (m ∷ ms) names h k = absurd h
  layers_named (l ∷ ls) [] names h k = absurd h
  layers_named (l ∷ ls) (m ∷ ms) [] h k = absurd k
  layers_named (l ∷ ls) (m ∷ ms) (t ∷ names) h k =
      (subst (λ (name : List ℕ). IsName name t) (sym (h.0).name) k.0, layers_named ls ms names h.1 k.1)

  pub mended_keeps : (d e : Document) → Mended paths d e → KeepsTexts d → KeepsTexts e
  mended_keeps d e h k = record {
    transform = subst (IfThere IsKeptTransform) (sym h.transform) k.transform;
    layer_names = k.layer_names;
    layers_named = layers_named d.layers e.layers k.layer_names h.layers k.layers_named;
    layers_differ = k.layers_differ;
    items = layers_keep d.layers e.layers h.layers k.items;
    members = subst (AreKeptMembers owner.Topology) (sym h.members) k.members;
  }

  -- ---- rings

  simple_ring : (w : List Position) → is_simple w ≡ true → is_ring (canonical w) ≡ true
  simple_ring w h =
      let two = and_parts (nat_le 3 (length w)) (is_distinct w) h in
      canonical_is_ring w (leb-true 3 (length w) two.0) two.1

  simple_rings : (ws : List (List Position)) → list_all is_simple ws ≡ true → list_all is_ring (map canonical ws) ≡ true
  simple_rings [] h = refl
  simple_rings (w ∷ ws) h =
      let two = and_parts (is_simple w) (list_all is_simple ws) h in
      ap₂ (λ a b. a && b) (simple_ring w two.0) (simple_rings ws two.1)

  polygon_rings : {ws : List (List Position)} {parts : Polygons} → IsMended ws parts
      → list_all is_ring (flat_map (λ p. p) parts) ≡ true
  polygon_rings {ws = ws} (stays h) =
      list_all-append is_ring (map canonical ws) [] ∙ ap (λ b. b && true) (simple_rings ws h)
  polygon_rings (parted h k) = k.rings

  parts_rings : (ps : Polygons) (parts : List Polygons) → AllZip (MendsPolygon paths) ps parts
      → list_all is_ring (flat_map (λ p. p) (polygons_of_parts parts)) ≡ true
  parts_rings [] [] h = refl
  parts_rings [] (q ∷ parts) h = absurd h
  parts_rings (p ∷ ps) [] h = absurd h
  parts_rings (p ∷ ps) (q ∷ parts) h =
      ap (list_all is_ring) (flat_map-append (λ z. z) q (polygons_of_parts parts))
      ∙ list_all-append is_ring (flat_map (λ z. z) q) (flat_map (λ z. z) (polygons_of_parts parts))
      ∙ ap₂ (λ a b. a && b) (polygon_rings h.0) (parts_rings ps parts h.1)

  features_rings : (fs gs : List Feature) → AllZip (MendsFeature paths) fs gs → list_all is_ring (flat_map rings_of gs) ≡ true
  features_rings [] [] h = refl
  features_rings [] (g ∷ gs) h = absurd h
  features_rings (f ∷ fs) [] h = absurd h
  features_rings (f ∷ fs) (g ∷ gs) h =
      let m = h.0 in
      list_all-append is_ring (rings_of g) (flat_map rings_of gs)
      ∙ ap₂ (λ a b. a && b)
      (ap (λ (z : Feature). list_all is_ring (rings_of z)) m.result
      ∙ ap (λ (z : Polygons). list_all is_ring (flat_map (λ p. p) z)) (m.mended).joins
      ∙ parts_rings f.polygons (m.mended).parts (m.mended).mended)
      (features_rings fs gs h.1)

  -- a mended document has rings alone
  pub mended_rings : (d e : Document) → Mended paths d e → list_all is_ring (rings e) ≡ true
  mended_rings d e h = features_rings (features d) (features e) (features_mended d e h)
