-- What was read is well formed.
use Rattle.kit_words.proofs.Common.{◌≡◌, ℕ, suc, ◌+◌, refl, sym, ap, List, [], ◌∷◌, length, AllZip, flat_map}
use Rattle.kit_words.proofs.Common.{filter_map}
use Rattle.json_spans.specs.Common.{Node}
use Rattle.grid_geometry.specs.Common.{Position}
use Rattle.ring_machine.specs.Common.{Feature, Item, Layer, feature_of, WellFormed}
use Rattle.ring_machine.proofs.Common.{AreNumbered, numbered-append, numbered_distinct}
use Rattle.topo_outline.specs.Common.{LayerText, Piece, leaf, OutlineText, leaves_in, leaves}
use Rattle.topo_outline.specs.Common.{IsOutline}
use Rattle.topo_reader.specs.Common.{Arc, Polygons, document_of, GeometryUses, AreClosed}
use Rattle.topo_outline.specs.Common.{items_from, layers_from}
use Rattle.topo_reader.proofs.Bracketed.{each_geometry}
use Rattle.topo_reader.proofs.Fitting.{each_fits}

-- ---- features are numbered in order

abbrev within_items : List Item → List Feature
within_items is = filter_map feature_of is

abbrev within_layers : List Layer → List Feature
within_layers ls = flat_map (λ l. filter_map feature_of l.items) ls

module _ (all : List Polygons) where
  items_length : (n : ℕ) (ps : List Piece)
      → length (within_items (items_from n all ps)) ≡ length (leaves_in ps)
  unfolding leaves_in
  items_length n [] = refl
  items_length n (leaf form head node ∷ ps) = ap (λ k. suc k) (items_length (n + 1) ps)
  items_length n (_ ∷ ps) = items_length n ps

  items_numbered : (n : ℕ) (ps : List Piece) → AreNumbered n (within_items (items_from n all ps))
  items_numbered n [] = tt
  items_numbered n (leaf form head node ∷ ps) = (refl, items_numbered (n + 1) ps)
  items_numbered n (_ ∷ ps) = items_numbered n ps

  layers_numbered : (n : ℕ) (ls : List LayerText) → AreNumbered n (within_layers (layers_from n all ls))
  layers_numbered n [] = tt
  layers_numbered n (l ∷ ls) =
      numbered-append n (n + length (leaves_in l.pieces)) (within_items (items_from n all l.pieces)) (within_layers (layers_from (n + length (leaves_in l.pieces)) all ls))
      (items_numbered n l.pieces) (layers_numbered (n + length (leaves_in l.pieces)) ls)
      (ap (λ z. n + z) (sym (items_length n l.pieces)))

-- ---- the document

-- an outline whose arcs make these polygons means a document that is well formed
pub read_formed : (IsOne : List Arc → List Position → Type 0) (root : Node) (shape : OutlineText)
    (found : List Arc) (uses : List (List (List (List Arc)))) (polygons : List Polygons)
    → IsOutline root shape → AllZip (GeometryUses found) (leaves shape.layers) uses
    → AllZip (AreClosed IsOne) uses polygons → WellFormed (document_of (record {
      transform = shape.transform;
      layers = shape.layers;
      members = shape.members;
      polygons = polygons;
    }))
read_formed IsOne root shape found uses polygons o u r = record {
  geometries = each_geometry polygons o.layers 0;
  forms = each_fits IsOne found shape.layers uses polygons u r;
  numbers = numbered_distinct 0 (within_layers (layers_from 0 polygons shape.layers)) (layers_numbered polygons 0 shape.layers);
}
