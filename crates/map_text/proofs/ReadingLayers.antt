-- The written layers are read with the same items, and their features with the same rings.
use Rattle.kit_words.proofs.Common.{◌≡◌, ℕ, ◌+◌, List, [], ◌∷◌, ◌++◌, map, length, true, false, refl, sym, ap, ap₂, ◌∙◌}
use Rattle.kit_words.proofs.Common.{subst, append_assoc, arith, ℤ, Some, slice_get, AllByRecursion, AllZip, flat_map}
use Rattle.kit_words.proofs.Common.{filter_map, length-append, length-map, AllZip-long, zip_joined}
use Rattle.grid_geometry.specs.Common.{Position}
use Rattle.ring_machine.specs.Common.{Text, Head, Member, Feature, FeatureOf, Item, Layer, Open, Close, Leaf, Kept}
use Rattle.ring_machine.specs.Common.{feature_of, in_feature, in_item, in_layer, is_geometry}
use Rattle.json_spans.specs.Common.{Node}
use Rattle.topo_outline.specs.Common.{EntryNode, Piece, starts, ends, leaf, text, LayerText, leaves_in, leaves}
use Rattle.topo_outline.specs.Common.{AreLayers, no_layer, IsJson, IsName, head_of}
use Rattle.topo_outline.specs.IsOutline as shape
use Rattle.topo_reader.specs.Common.{Arc, GeometryUses, AreRings, IsRing, Polygons}
use Rattle.topo_outline.specs.Common.{polygons_at, items_from}
use Rattle.topo_outline.specs.Common.{layers_from}
use Rattle.map_text.specs.Common.{items_text, layer_member}
use Rattle.map_text.proofs.MembersSeen.{Seen, seen, seen_as, all_seen}
use Rattle.map_text.proofs.ReadingLists.{first_same, rest_same}
use Rattle.map_text.proofs.ReadingUses.{IsShape, geometry_uses}
use Rattle.map_text.proofs.ReadingTrees.{IsTree, tree, geometry_mapped, layer_written}
use Rattle.map_text.proofs.ReadingGeometries.{IsWritten, IsPieceOf, opens, closes, feature, kept, tree_json, IsRead, tree_read}
use Rattle.map_text.proofs.ReadingRings.{IsDrawn, IsPlain, named_polygons, plain_fits}

-- ---- the pieces of items

opened : {h : Head} {p : Piece} → IsPieceOf (Open h) p → p ≡ starts h
opened opens = refl

closed : {p : Piece} → IsPieceOf Close p → p ≡ ends
closed closes = refl

texted : {t : Text} {p : Piece} → IsPieceOf (Kept t) p → p ≡ text t
texted kept = refl

leafed : {f : FeatureOf (List ℤ)} {p : Piece} → IsPieceOf (Leaf f) p → (a : Node) × IsShape f.form f.polygons a × (p ≡ leaf f.form (head_of f) a)
leafed (feature {a = a} s) = (a, s, refl)

-- ---- the layers

-- the polygons of the features among the items, and of a layer
abbrev pub polygons_of : Feature → Polygons
polygons_of f = f.polygons

abbrev pub layer_polygons : Layer → List Polygons
layer_polygons l = map polygons_of (filter_map feature_of l.items)

module _ (arcs : List Arc) (g : List Position → List ℤ) (cut : List Position → List Arc) where
  abbrev pub IsItemOf : Item → Piece → Type 0
  IsItemOf i p = IsPieceOf (in_item (in_feature g) i) p

  -- a layer that is written
  pub record IsPlainLayer (l : Layer) : Type 0 where
    pub geometry : is_geometry l.items ≡ true
    pub written : AllByRecursion (IsWritten arcs) (map (in_item (in_feature g)) l.items)
    pub plain : AllByRecursion (IsPlain (IsDrawn arcs g cut)) (filter_map feature_of l.items)

  layer_tree : (l : Layer) → IsPlainLayer l → IsTree (map (in_item (in_feature g)) l.items)
  layer_tree l h = tree (map (in_item (in_feature g)) l.items) (geometry_mapped (in_feature g) l.items ∙ h.geometry)

  abbrev pub layer_text : Layer → Text
  layer_text l = items_text [] false (map (in_item (in_feature g)) l.items)

  pub layer_json : (l : Layer) → IsPlainLayer l → IsJson (layer_text l)
  layer_json l h = subst IsJson (sym (layer_written (layer_tree l h))) (tree_json arcs (layer_tree l h) h.written)

  layer_read : (l : Layer) → IsPlainLayer l → (n : Node) → n.bytes ≡ layer_text l → IsRead n (map (in_item (in_feature g)) l.items)
  layer_read l h n e = tree_read arcs (layer_tree l h) h.written n (e ∙ layer_written (layer_tree l h))

  -- a layer as it is read
  pub record IsReadLayer (l : Layer) (t : LayerText) : Type 0 where
    pub name : t.name ≡ l.name
    pub items : AllZip IsItemOf l.items t.pieces

  items_apart : (items : List Item) (ps : List Piece) → AllZip IsPieceOf (map (in_item (in_feature g)) items) ps → AllZip IsItemOf items ps
  items_apart [] [] h = tt
  items_apart [] (p ∷ ps) h = absurd h
  items_apart (i ∷ items) [] h = absurd h
  items_apart (i ∷ items) (p ∷ ps) h = (h.0, items_apart items ps h.1)

  abbrev pub layer_as : Layer → Member
  layer_as l = layer_member (in_layer (map (in_item (in_feature g))) l)

  pub record AreReadLayers (es : List EntryNode) (ls : List Layer) : Type 0 where
    pub texts : List LayerText
    pub layers : AreLayers es texts
    pub read : AllZip IsReadLayer ls texts

  pub layers_read : (ls : List Layer) (ts : List (List ℕ)) (es : List EntryNode) → AllZip (λ l t. IsName l.name t) ls ts → AllByRecursion IsPlainLayer ls → map seen es ≡ all_seen ts (map layer_as ls) → AreReadLayers es ls
  layers_read [] [] [] k h e = record { texts = []; layers = no_layer; read = tt }
  layers_read [] [] (m ∷ es) k h e = absurd cc
  layers_read [] (t ∷ ts) es k h e = absurd k
  layers_read (l ∷ ls) [] es k h e = absurd k
  layers_read (l ∷ ls) (t ∷ ts) [] k h e = absurd cc
  layers_read (l ∷ ls) (t ∷ ts) (m ∷ es) k h e =
      let same : seen m ≡ seen_as t (layer_as l) = first_same (seen m) (seen_as t (layer_as l)) (map seen es) (all_seen ts (map layer_as ls)) e in
      let made = layer_read l h.0 m.value (ap (λ (s : Seen). s.value) same) in
      let rest = layers_read ls ts es k.1 h.1 (rest_same (seen m) (seen_as t (layer_as l)) (map seen es) (all_seen ts (map layer_as ls)) e) in
      record {
        texts = record { name = m.name.bytes; pieces = made.pieces } ∷ rest.texts;
        layers = shape.layer made.geometry rest.layers;
        read = (record { name = ap (λ (s : Seen). s.name) same; items = items_apart l.items made.pieces made.are }, rest.read);
      }

  -- ---- the arcs of the features

  abbrev pub uses_of : Feature → List (List (List Arc))
  uses_of f = map (map cut) f.polygons

  abbrev pub layer_uses : Layer → List (List (List (List Arc)))
  layer_uses l = map uses_of (filter_map feature_of l.items)

  items_use : (items : List Item) (ps : List Piece) → AllZip IsItemOf items ps → AllByRecursion (IsPlain (IsDrawn arcs g cut)) (filter_map feature_of items) → AllZip (GeometryUses arcs) (leaves_in ps) (map uses_of (filter_map feature_of items))
  unfolding leaves_in
  items_use [] [] h k = tt
  items_use [] (p ∷ ps) h k = absurd h
  items_use (i ∷ items) [] h k = absurd h
  items_use (Open x ∷ items) (p ∷ ps) h k = rw (opened h.0) (items_use items ps h.1 k)
  items_use (Close ∷ items) (p ∷ ps) h k = rw (closed h.0) (items_use items ps h.1 k)
  items_use (Kept t ∷ items) (p ∷ ps) h k = rw (texted h.0) (items_use items ps h.1 k)
  items_use (Leaf f ∷ items) (p ∷ ps) h k =
      let found = leafed h.0 in
      rw found.2 (geometry_uses arcs found.0 (uses_of f) (plain_fits arcs g cut f k.0) (named_polygons arcs g cut f.polygons k.0.rings) found.1, items_use items ps h.1 k.1)

  pub layers_use : (ls : List Layer) (ts : List LayerText) → AllZip IsReadLayer ls ts → AllByRecursion IsPlainLayer ls → AllZip (GeometryUses arcs) (leaves ts) (flat_map layer_uses ls)
  unfolding leaves
  layers_use [] [] h k = tt
  layers_use [] (t ∷ ts) h k = absurd h
  layers_use (l ∷ ls) [] h k = absurd h
  layers_use (l ∷ ls) (t ∷ ts) h k = zip_joined (GeometryUses arcs) (leaves_in t.pieces) (leaves ts) (layer_uses l) (flat_map layer_uses ls) (items_use l.items t.pieces h.0.items k.0.plain) (layers_use ls ts h.1 k.1)

  -- ---- their rings

  rings_lead : (rs : List (List Position)) → AllByRecursion (IsDrawn arcs g cut) rs → AllZip IsRing (map cut rs) rs
  rings_lead [] h = tt
  rings_lead (r ∷ rs) h = (h.0.leads, rings_lead rs h.1)

  polygons_lead : (ps : List (List (List Position))) → AllByRecursion (λ polygon. AllByRecursion (IsDrawn arcs g cut) polygon) ps → AreRings (map (map cut) ps) ps
  polygons_lead [] h = tt
  polygons_lead (p ∷ ps) h = (rings_lead p h.0, polygons_lead ps h.1)

  features_lead : (fs : List Feature) → AllByRecursion (IsPlain (IsDrawn arcs g cut)) fs → AllZip AreRings (map uses_of fs) (map polygons_of fs)
  features_lead [] h = tt
  features_lead (f ∷ fs) h = (polygons_lead f.polygons h.0.rings, features_lead fs h.1)

  pub layers_lead : (ls : List Layer) → AllByRecursion IsPlainLayer ls → AllZip AreRings (flat_map layer_uses ls) (flat_map layer_polygons ls)
  layers_lead [] h = tt
  layers_lead (l ∷ ls) h = zip_joined AreRings (layer_uses l) (flat_map layer_uses ls) (layer_polygons l) (flat_map layer_polygons ls) (features_lead (filter_map feature_of l.items) h.0.plain) (layers_lead ls h.1)

  -- ---- numbers

  leaves_count : (l : Layer) (t : LayerText) → IsReadLayer l t → IsPlainLayer l → length (leaves_in t.pieces) ≡ length (layer_polygons l)
  leaves_count l t h k =
      omega (arith, AllZip-long (GeometryUses arcs) (leaves_in t.pieces) (layer_uses l) (items_use l.items t.pieces h.items k.plain), length-map (filter_map feature_of l.items) uses_of, length-map (filter_map feature_of l.items) polygons_of)

  abbrev zeroed : Feature → Feature
  zeroed f = record f { number = 0 }

  get_at : (front : List Polygons) (x : Polygons) (back : List Polygons) → slice_get (front ++ (x ∷ back)) (length front) ≡ Some x
  get_at [] x back = refl
  get_at (y ∷ front) x back = get_at front x back

  at_place : (all front : List Polygons) (x : Polygons) (back : List Polygons) (n : ℕ) → all ≡ front ++ (x ∷ back) → n ≡ length front → polygons_at all n ≡ x
  at_place all front x back n e c = rw (e, c, get_at front x back) refl

  items_same : (items : List Item) (ps : List Piece) → AllZip IsItemOf items ps → (all front back : List Polygons) (n : ℕ) → all ≡ front ++ (map polygons_of (filter_map feature_of items) ++ back) → n ≡ length front → map (in_item zeroed) items ≡ map (in_item zeroed) (items_from n all ps)
  items_same [] [] h all front back n e c = refl
  items_same [] (p ∷ ps) h all front back n e c = absurd h
  items_same (i ∷ items) [] h all front back n e c = absurd h
  items_same (Open x ∷ items) (p ∷ ps) h all front back n e c = rw (opened h.0) (ap (λ (z : List Item). Open x ∷ z) (items_same items ps h.1 all front back n e c))
  items_same (Close ∷ items) (p ∷ ps) h all front back n e c = rw (closed h.0) (ap (λ (z : List Item). Close ∷ z) (items_same items ps h.1 all front back n e c))
  items_same (Kept t ∷ items) (p ∷ ps) h all front back n e c = rw (texted h.0) (ap (λ (z : List Item). Kept t ∷ z) (items_same items ps h.1 all front back n e c))
  items_same (Leaf f ∷ items) (p ∷ ps) h all front back n e c =
      let found = leafed h.0 in
      let here : polygons_at all n ≡ f.polygons = at_place all front f.polygons (map polygons_of (filter_map feature_of items) ++ back) n e c in
      let next : all ≡ (front ++ (f.polygons ∷ [])) ++ (map polygons_of (filter_map feature_of items) ++ back) = e ∙ sym (append_assoc front (f.polygons ∷ []) (map polygons_of (filter_map feature_of items) ++ back)) in
      let count : n + 1 ≡ length (front ++ (f.polygons ∷ [])) = omega (arith, c, length-append front (f.polygons ∷ [])) in
      rw (found.2, here) (ap (λ (z : List Item). Leaf (zeroed f) ∷ z) (items_same items ps h.1 all (front ++ (f.polygons ∷ [])) back (n + 1) next count))

  pub layers_same : (ls : List Layer) (ts : List LayerText) → AllZip IsReadLayer ls ts → AllByRecursion IsPlainLayer ls → (all front : List Polygons) (n : ℕ) → all ≡ front ++ flat_map layer_polygons ls → n ≡ length front →
      map (in_layer (map (in_item zeroed))) ls ≡ map (in_layer (map (in_item zeroed))) (layers_from n all ts)
  layers_same [] [] h k all front n e c = refl
  layers_same [] (t ∷ ts) h k all front n e c = absurd h
  layers_same (l ∷ ls) [] h k all front n e c = absurd h
  layers_same (l ∷ ls) (t ∷ ts) h k all front n e c =
      let items = items_same l.items t.pieces h.0.items all front (flat_map layer_polygons ls) n e c in
      let next : all ≡ (front ++ layer_polygons l) ++ flat_map layer_polygons ls = e ∙ sym (append_assoc front (layer_polygons l) (flat_map layer_polygons ls)) in
      let count : n + length (leaves_in t.pieces) ≡ length (front ++ layer_polygons l) = omega (arith, c, length-append front (layer_polygons l), leaves_count l t h.0 k.0) in
      ap₂ (λ (x : Layer) (z : List Layer). x ∷ z) (one_same l t.name (items_from n all t.pieces) h.0.name items) (layers_same ls ts h.1 k.1 all (front ++ layer_polygons l) (n + length (leaves_in t.pieces)) next count)
    where
      one_same : (m : Layer) (name : Text) (made : List Item) → name ≡ m.name → map (in_item zeroed) m.items ≡ map (in_item zeroed) made → in_layer (map (in_item zeroed)) m ≡ in_layer (map (in_item zeroed)) (record { name = name; items = made })
      one_same m name made a b = rw (a, b) refl
