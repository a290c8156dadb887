-- What was read has texts that opening would keep.
use Rattle.kit_words.proofs.Common.{ℕ, ◌+◌, List, [], ◌∷◌, length, AllByRecursion, AllZip}
use Rattle.json_spans.specs.Common.{Node}
use Rattle.topo_outline.specs.Common.{LayerText, Piece, starts, ends, leaf, text, OutlineText, leaves_in, IsOutline}
use Rattle.topo_outline.specs.Common.{NestsAtMost, IsName, KeepsItem, KeepsTexts}
use Rattle.topo_outline.proofs.Keeping.{KeepsPiece, outline_keeps}
use Rattle.topo_reader.specs.Common.{Polygons, document_of}
use Rattle.topo_outline.specs.Common.{items_from, layers_from}

module _ (all : List Polygons) where
  items_keep : (n : ℕ) (ps : List Piece) → AllByRecursion KeepsPiece ps
      → AllByRecursion KeepsItem (items_from n all ps)
  items_keep n [] h = tt
  items_keep n (starts head ∷ ps) h = (h.0, items_keep n ps h.1)
  items_keep n (ends ∷ ps) h = (tt, items_keep n ps h.1)
  items_keep n (leaf form head node ∷ ps) h = (h.0, items_keep (n + 1) ps h.1)
  items_keep n (text t ∷ ps) h = (h.0, items_keep n ps h.1)

  layers_keep : (n : ℕ) (ls : List LayerText) → AllByRecursion (λ l. AllByRecursion KeepsPiece l.pieces) ls
      → AllByRecursion (λ l. AllByRecursion KeepsItem l.items) (layers_from n all ls)
  layers_keep n [] h = tt
  layers_keep n (l ∷ ls) h =
      (items_keep n l.pieces h.0, layers_keep (n + length (leaves_in l.pieces)) ls h.1)

  layers_named : (n : ℕ) (ls : List LayerText) (names : List (List ℕ))
      → AllZip (λ l t. IsName l.name t) ls names → AllZip (λ l t. IsName l.name t) (layers_from n all ls) names
  layers_named n [] [] h = tt
  layers_named n [] (t ∷ names) h = absurd h
  layers_named n (l ∷ ls) [] h = absurd h
  layers_named n (l ∷ ls) (t ∷ names) h =
      (h.0, layers_named (n + length (leaves_in l.pieces)) ls names h.1)

-- the document of an outline keeps the outline's texts
pub read_keeps : (k : ℕ) (root : Node) (shape : OutlineText) (polygons : List Polygons)
    → NestsAtMost k root → IsOutline root shape → KeepsTexts (document_of (record {
      transform = shape.transform;
      layers = shape.layers;
      members = shape.members;
      polygons = polygons;
    }))
read_keeps k root shape polygons nests o =
    let h = outline_keeps k root shape nests o in
    record {
      transform = h.transform;
      layer_names = h.layer_names;
      layers_named = layers_named polygons 0 shape.layers h.layer_names h.layers_named;
      layers_differ = h.layers_differ;
      items = layers_keep polygons 0 shape.layers h.pieces;
      members = h.members;
    }
