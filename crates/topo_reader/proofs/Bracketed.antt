-- The items of a geometry stand between brackets that belong together.
use Rattle.kit_words.proofs.Common.{◌≡◌, ℕ, suc, ◌+◌, true, refl, ap, ap₂, ◌∙◌, ◌&&◌, List, [], ◌∷◌, ◌++◌, length}
use Rattle.kit_words.proofs.Common.{append_assoc, list_all}
use Rattle.json_spans.specs.Common.{Node}
use Rattle.ring_machine.specs.Common.{is_inner, is_geometry}
use Rattle.topo_outline.specs.Common.{EntryNode, Piece, ends, LayerText, leaves_in, IsGeometry, null_geometry, point}
use Rattle.topo_outline.specs.Common.{multi_point, polygon, multi_polygon, collection, AreGeometries, no_geometry}
use Rattle.topo_outline.specs.Common.{geometry, AreLayers, no_layer, layer}
use Rattle.topo_reader.specs.Common.{Polygons}
use Rattle.topo_outline.specs.Common.{items_from, layers_from}

module _ (all : List Polygons) where
  -- with the pieces that follow, whatever numbers they have, the open collections are closed
  abbrev Closes : ℕ → List Piece → Type 0
  Closes k rest = (m : ℕ) → is_inner (suc k) (items_from m all rest) ≡ true

  mutual
    inside_geometry : {n : Node} {ps : List Piece} → IsGeometry n ps → (k : ℕ) (rest : List Piece)
        → Closes k rest → Closes k (ps ++ rest)
    inside_geometry (null_geometry o t e) k rest h m = h (m + 1)
    inside_geometry (point o t) k rest h m = h m
    inside_geometry (multi_point o t) k rest h m = h m
    inside_geometry (polygon o t a r) k rest h m = h (m + 1)
    inside_geometry (multi_polygon o t a r) k rest h m = h (m + 1)
    inside_geometry (collection {ps = ps} o t a r gs) k rest h m =
        ap (λ qs. is_inner (suc (suc k)) (items_from m all qs)) (append_assoc ps (ends ∷ []) rest)
        ∙ inside_geometries gs (suc k) (ends ∷ rest) h m

    inside_geometries : {ns : List Node} {ps : List Piece} → AreGeometries ns ps → (k : ℕ)
        (rest : List Piece) → Closes k rest → Closes k (ps ++ rest)
    inside_geometries no_geometry k rest h m = h m
    inside_geometries (geometry {ps = ps} {qs = qs} g gs) k rest h m =
        ap (λ rs. is_inner (suc k) (items_from m all rs)) (append_assoc ps qs rest)
        ∙ inside_geometry g k (qs ++ rest) (inside_geometries gs k rest h) m

  -- the items of a geometry object are one geometry
  pub one_geometry : {n : Node} {ps : List Piece} → IsGeometry n ps → (m : ℕ)
      → is_geometry (items_from m all ps) ≡ true
  one_geometry (null_geometry o t e) m = refl
  one_geometry (point o t) m = refl
  one_geometry (multi_point o t) m = refl
  one_geometry (polygon o t a r) m = refl
  one_geometry (multi_polygon o t a r) m = refl
  one_geometry (collection o t a r gs) m = inside_geometries gs 0 (ends ∷ []) (λ i. refl) m

  -- and so is each layer
  pub each_geometry : {es : List EntryNode} {ls : List LayerText} → AreLayers es ls → (m : ℕ)
      → list_all (λ l. is_geometry l.items) (layers_from m all ls) ≡ true
  each_geometry no_layer m = refl
  each_geometry (layer {ps = ps} g gs) m =
      ap₂ (λ a b. a && b) (one_geometry g m) (each_geometry gs (m + length (leaves_in ps)))
