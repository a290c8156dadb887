-- The items of the layers, before and after.
use Rattle.kit_words.proofs.Common.{◌≡◌, ℕ, zero, suc, ◌+◌, List, [], ◌∷◌, map, length, drop, get_or, refl, sym, ap}
use Rattle.kit_words.proofs.Common.{ap₂, ◌∙◌, arith, AllZip, drop-drop, get_or-drop, unwrap_or-slice_get}
use Rattle.std.proofs.Common.{length-append}
use Rattle.ring_machine.specs.Common.{Form, Head}
use Rattle.topo_outline.specs.Common.{LayerText, Piece, starts, ends, leaf, text, leaves_in, leaves}
use Rattle.topo_reader.specs.Common.{Polygons, Opened, document_of}
use Rattle.topo_outline.specs.Common.{polygons_at, numbered, items_from, layers_from}
use Rattle.segment_paths.specs.Common.{PathOfSegment}
use Rattle.map_mending.specs.Common.{Parted, MendsPolygon, MendsPolygons, MendsFeature, MendsItem, MendsLayer, Mended}
use Rattle.map_mending.specs.Common.{polygons_of_parts, form_after, TellsParted, pieces_after, layers_after, with_mended}

-- ---- the features are as many

pub pieces_count : (all : List Polygons) (ps : List Piece) → length (leaves_in (pieces_after all ps)) ≡ length (leaves_in ps)
unfolding leaves_in
pieces_count all [] = refl
pieces_count all (starts head ∷ ps) = pieces_count all ps
pieces_count all (ends ∷ ps) = pieces_count all ps
pieces_count all (text t ∷ ps) = pieces_count all ps
pieces_count all (leaf form head node ∷ ps) = ap (λ n. suc n) (pieces_count (drop 1 all) ps)

pub layers_count : (all : List Polygons) (ls : List LayerText) → length (leaves (layers_after all ls)) ≡ length (leaves ls)
unfolding leaves
layers_count all [] = refl
layers_count all (l ∷ ls) =
    let rest = drop (length (leaves_in l.pieces)) all in
    length-append (leaves_in (pieces_after all l.pieces)) (leaves (layers_after rest ls))
    ∙ ap₂ (λ m n. m + n) (pieces_count all l.pieces) (layers_count rest ls)
    ∙ sym (length-append (leaves_in l.pieces) (leaves ls))

-- ---- each is mended

polygons_ahead : (all rest : List Polygons) (n : ℕ) → rest ≡ drop n all → polygons_at rest 0 ≡ polygons_at all n
polygons_ahead all rest n e =
    ap (λ (z : List Polygons). polygons_at z 0) e
    ∙ unwrap_or-slice_get (drop n all) 0 []
    ∙ get_or-drop n all 0 []
    ∙ ap (λ (k : ℕ). get_or all k []) (omega arith)
    ∙ sym (unwrap_or-slice_get all n [])

ahead : (all rest : List Polygons) (n k : ℕ) → rest ≡ drop n all → drop k rest ≡ drop (n + k) all
ahead all rest n k e = ap (λ (z : List Polygons). drop k z) e ∙ drop-drop k n all

module _ (paths : List PathOfSegment) (all mended : List Polygons) (each : (n : ℕ) → MendsPolygons paths (polygons_at all n) (polygons_at mended n)) where
  one_feature : (n : ℕ) (rest : List Polygons) → rest ≡ drop n mended → (form : Form) (head : Head)
      → MendsFeature paths (numbered n form head (polygons_at all n))
      (numbered n (form_after form (length (polygons_at rest 0))) head (polygons_at mended n))
  one_feature n rest e form head = record {
    polygons = polygons_at mended n;
    mended = each n;
    result = ap (λ (ps : Polygons). numbered n (form_after form (length ps)) head (polygons_at mended n)) (polygons_ahead mended rest n e);
  }

  items_mended : (n : ℕ) (rest : List Polygons) → rest ≡ drop n mended → (ps : List Piece)
      → AllZip (MendsItem paths) (items_from n all ps) (items_from n mended (pieces_after rest ps))
  items_mended n rest e [] = tt
  items_mended n rest e (starts head ∷ ps) = (refl, items_mended n rest e ps)
  items_mended n rest e (ends ∷ ps) = (refl, items_mended n rest e ps)
  items_mended n rest e (text t ∷ ps) = (refl, items_mended n rest e ps)
  items_mended n rest e (leaf form head node ∷ ps) = (
    (numbered n (form_after form (length (polygons_at rest 0))) head (polygons_at mended n), one_feature n rest e form head, refl),
    items_mended (n + 1) (drop 1 rest) (ahead mended rest n 1 e) ps,
  )

  layers_mended : (n : ℕ) (rest : List Polygons) → rest ≡ drop n mended → (ls : List LayerText)
      → AllZip (MendsLayer paths) (layers_from n all ls) (layers_from n mended (layers_after rest ls))
  layers_mended n rest e [] = tt
  layers_mended n rest e (l ∷ ls) =
      let k = length (leaves_in l.pieces) in
      let same : n + length (leaves_in (pieces_after rest l.pieces)) ≡ n + k = ap (λ (j : ℕ). n + j) (pieces_count rest l.pieces) in (
        record { name = refl; items = items_mended n rest e l.pieces },
        rw same (layers_mended (n + k) (drop k rest) (ahead mended rest n k e) ls),
      )

-- ---- the polygons by place

-- polygons that stand in the place of others, each of which is mended
pub mends_each : (paths : List PathOfSegment) (all mended : List Polygons) (parts : List (List Polygons))
    → AllZip (AllZip (MendsPolygon paths)) all parts → mended ≡ map polygons_of_parts parts
    → (n : ℕ) → MendsPolygons paths (polygons_at all n) (polygons_at mended n)
mends_each paths all mended parts h e n = rw (unwrap_or-slice_get all n [], unwrap_or-slice_get mended n [], e) (by all parts h n)
  where
    none : MendsPolygons paths [] []
    none = record { parts = []; mended = tt; joins = refl }

    by : (all : List Polygons) (parts : List (List Polygons)) → AllZip (AllZip (MendsPolygon paths)) all parts
        → (n : ℕ) → MendsPolygons paths (get_or all n []) (get_or (map polygons_of_parts parts) n [])
    by [] [] h zero = none
    by [] [] h (suc n) = none
    by [] (p ∷ parts) h n = absurd h
    by (a ∷ all) [] h n = absurd h
    by (a ∷ all) (p ∷ parts) h zero = record { parts = p; mended = h.0; joins = refl }
    by (a ∷ all) (p ∷ parts) h (suc n) = by all parts h.1 n

-- the document with mended polygons is the document mended
pub document_mended : (paths : List PathOfSegment) (o : Opened) (mended : List Polygons) (told : List Parted)
    → TellsParted paths o.polygons mended told → Mended paths (document_of o) (document_of (with_mended o mended))
document_mended paths o mended told t = record {
  transform = refl;
  layers = layers_mended paths o.polygons mended (mends_each paths o.polygons mended t.parts t.each t.joins) 0 mended refl o.layers;
  members = refl;
}
