-- The document of what was read, with each ring changed.
use Rattle.kit_words.proofs.Common.{◌≡◌, ℕ, ◌+◌, List, [], ◌∷◌, refl, sym, ap, ap₂, ◌∙◌, map, length, Option, None}
use Rattle.kit_words.proofs.Common.{Some, slice_get, unwrap_or, option_map, slice_get-map}
use Rattle.grid_geometry.specs.Common.{Position}
use Rattle.ring_machine.specs.Common.{Open, Close, Leaf, Kept, in_feature, in_item, in_layer, in_rings}
use Rattle.topo_outline.specs.Common.{Piece, starts, ends, leaf, text, LayerText, leaves_in}
use Rattle.topo_reader.specs.Common.{Polygons, Opened, document_of}
use Rattle.topo_outline.specs.Common.{polygons_at, numbered, items_from, layers_from}

module _ (g : List Position → List Position) where
  abbrev changed : Polygons → Polygons
  changed ps = map (map g) ps

  polygons-changed : (all : List Polygons) (n : ℕ) → polygons_at (map changed all) n ≡ changed (polygons_at all n)
  polygons-changed all n = ap (λ ps. unwrap_or ps []) (slice_get-map changed all n) ∙ by (slice_get all n)
    where
      by : (ps : Option Polygons) → unwrap_or (option_map changed ps) [] ≡ changed (unwrap_or ps [])
      by None = refl
      by (Some ps) = refl

  items-changed : (n : ℕ) (all : List Polygons) (ps : List Piece)
      → map (in_item (in_feature g)) (items_from n all ps) ≡ items_from n (map changed all) ps
  items-changed n all [] = refl
  items-changed n all (starts head ∷ ps) = ap (λ z. in_item (in_feature g) (Open head) ∷ z) (items-changed n all ps)
  items-changed n all (ends ∷ ps) = ap (λ z. Close ∷ z) (items-changed n all ps)
  items-changed n all (text t ∷ ps) = ap (λ z. Kept t ∷ z) (items-changed n all ps)
  items-changed n all (leaf form head arcs ∷ ps) =
      ap₂ (λ qs z. Leaf (numbered n form head qs) ∷ z) (sym (polygons-changed all n)) (items-changed (n + 1) all ps)

  layers-changed : (n : ℕ) (all : List Polygons) (ls : List LayerText)
      → map (in_layer (map (in_item (in_feature g)))) (layers_from n all ls) ≡ layers_from n (map changed all) ls
  layers-changed n all [] = refl
  layers-changed n all (l ∷ ls) =
      ap₂ (λ is z. record { name = l.name; items = is } ∷ z) (items-changed n all l.pieces)
      (layers-changed (n + length (leaves_in l.pieces)) all ls)

  -- is that of the changed polygons
  pub rings_changed : (o : Opened) → in_rings g (document_of o) ≡ document_of (record o { polygons = map changed o.polygons })
  rings_changed o =
      ap (λ ls. record { transform = o.transform; layers = ls; members = o.members }) (layers-changed 0 o.polygons o.layers)
