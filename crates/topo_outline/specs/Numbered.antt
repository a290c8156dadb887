-- An outline with polygons: its features numbered from 0 in the order of the text, each with its polygons.
use Rattle.std.specs.Prelude.{ℕ, ◌+◌, List, [], ◌∷◌, length, unwrap_or, slice_get}
use Rattle.ring_machine.specs.Common.{Form, Head, FeatureOf, ItemOf, Open, Close, Leaf, Kept, LayerOf}
use Rattle.topo_outline.specs.Layers.{Piece, starts, ends, leaf, text, LayerText, leaves_in}

-- with rings of any kind
module _ {R : Type 0} where
  -- the polygons of feature n
  abbrev pub polygons_at : List (List (List R)) → ℕ → List (List R)
  polygons_at all n = unwrap_or (slice_get all n) []

  -- a feature with its number and its polygons
  abbrev pub numbered : ℕ → Form → Head → List (List R) → FeatureOf R
  numbered n form head polygons = record {
    number = n;
    id = head.id;
    form = form;
    properties = head.properties;
    members = head.members;
    polygons = polygons;
  }

  -- the items, their features numbered from n in the order of the text
  abbrev pub items_from : ℕ → List (List (List R)) → List Piece → List (ItemOf R)
  items_from n all [] = []
  items_from n all (starts head ∷ ps) = Open head ∷ items_from n all ps
  items_from n all (ends ∷ ps) = Close ∷ items_from n all ps
  items_from n all (leaf form head arcs ∷ ps) =
      Leaf (numbered n form head (polygons_at all n)) ∷ items_from (n + 1) all ps
  items_from n all (text t ∷ ps) = Kept t ∷ items_from n all ps

  -- the layers, the features of each numbered on from those before it
  abbrev pub layers_from : ℕ → List (List (List R)) → List LayerText → List (LayerOf R)
  layers_from n all [] = []
  layers_from n all (l ∷ ls) =
      record { name = l.name; items = items_from n all l.pieces }
      ∷ layers_from (n + length (leaves_in l.pieces)) all ls
