-- What was read with rings of another kind, as a frame.
use Rattle.kit_words.proofs.Common.{◌≡◌, ℕ, zero, suc, ◌+◌, refl, sym, ap, ap₂, ◌∙◌, List, [], ◌∷◌, map, length, get_or}
use Rattle.kit_words.proofs.Common.{unwrap_or-slice_get}
use Rattle.grid_geometry.specs.Common.{Position}
use Rattle.ring_machine.specs.Common.{DocumentOf, Open, Close, Leaf, Kept, in_feature, in_item, in_layer, in_rings}
use Rattle.topo_outline.specs.Shape.{LayerText, Piece, starts, ends, leaf, text}
use Rattle.topo_outline.specs.Outline.{leaves_in}
use Rattle.topo_reader.specs.Common.{Opened, document_of}
use Rattle.topo_outline.specs.Common.{polygons_at, numbered, items_from, layers_from}

-- the shape of what was read, with these rings
abbrev pub framed : {R : Type 0} → Opened → List (List (List R)) → DocumentOf R
framed o all = record {
  transform = o.transform;
  layers = layers_from 0 all o.layers;
  members = o.members;
}

module _ {R : Type 0} (g : R → List Position) where
  -- the polygons of one feature
  at : (all : List (List (List R))) (n : ℕ)
      → map (map g) (get_or all n []) ≡ get_or (map (map (map g)) all) n []
  at [] zero = refl
  at [] (suc n) = refl
  at (ps ∷ all) zero = refl
  at (ps ∷ all) (suc n) = at all n

  at_number : (all : List (List (List R))) (n : ℕ)
      → map (map g) (polygons_at all n) ≡ polygons_at (map (map (map g)) all) n
  at_number all n =
      ap (map (map g)) (unwrap_or-slice_get all n []) ∙ at all n
      ∙ sym (unwrap_or-slice_get (map (map (map g)) all) n [])

  items_read : (n : ℕ) (all : List (List (List R))) (ps : List Piece)
      → map (in_item (in_feature g)) (items_from n all ps) ≡ items_from n (map (map (map g)) all) ps
  items_read n all [] = refl
  items_read n all (starts head ∷ ps) = ap (λ z. Open head ∷ z) (items_read n all ps)
  items_read n all (ends ∷ ps) = ap (λ z. Close ∷ z) (items_read n all ps)
  items_read n all (leaf form head arcs ∷ ps) =
      ap₂ (λ y z. Leaf (numbered n form head y) ∷ z) (at_number all n) (items_read (n + 1) all ps)
  items_read n all (text t ∷ ps) = ap (λ z. Kept t ∷ z) (items_read n all ps)

  -- the layers with rings put in are those of the rings that were put in
  pub layers_read : (n : ℕ) (all : List (List (List R))) (ls : List LayerText)
      → map (in_layer (map (in_item (in_feature g)))) (layers_from n all ls)
      ≡ layers_from n (map (map (map g)) all) ls
  layers_read n all [] = refl
  layers_read n all (l ∷ ls) =
      ap₂ (λ y z. record { name = l.name; items = y } ∷ z)
      (items_read n all l.pieces) (layers_read (n + length (leaves_in l.pieces)) all ls)

  -- where the rings that are put in are those that were read, so is the document
  pub read_framed : (o : Opened) (all : List (List (List R))) → map (map (map g)) all ≡ o.polygons
      → in_rings g (framed o all) ≡ document_of o
  read_framed o all e =
      ap (λ z. record { transform = o.transform; layers = z; members = o.members })
      (layers_read 0 all o.layers ∙ ap (λ z. layers_from 0 z o.layers) e)
