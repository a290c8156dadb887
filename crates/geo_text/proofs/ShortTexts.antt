-- The texts of the points of a map are no longer than the map.
use Rattle.kit_words.proofs.Common.{◌≡◌, ℕ, ◌+◌, ◌≤◌, ◌∷◌, [], List, length, arith, Some, AllByRecursion, all_joined, subst, sym}
use Rattle.grid_geometry.specs.Common.{Position}
use Rattle.json_spans.specs.Common.{Node}
use Rattle.json_spans.proofs.Common.{padded_root}
use Rattle.ring_machine.specs.Common.{Close, Document, Item, Kept, Layer, Leaf, Open}
use Rattle.topo_outline.specs.Common.{AreGeometries, AreLayers, EntryNode, HasEntries, IsGeometry, IsOutline, LayerText, OutlineText, Piece}
use Rattle.topo_outline.specs.Common.{collection, ends, geometry, items_from, layer, layers_from, leaf, leaves_in, multi_point, multi_polygon}
use Rattle.topo_outline.specs.Common.{no_geometry, no_layer, null_geometry, point, polygon, starts, text, value_at}
use Rattle.topo_outline.specs.declared.words.Word.{Word}
use Rattle.topo_outline.specs.declared.words.Word.TheVariants as word
use Rattle.topo_outline.proofs.Values.{value_has, values_have}
use Rattle.topo_reader.specs.Common.{Reads, root_of}
use Rattle.geo_text.proofs.Inside.{EndsBy, list_ends, object_ends, trimmed_ends}

-- a text that is kept is no longer than this
abbrev pub IsShort : ℕ → Piece → Type 0
IsShort most (text t) = length t ≤ most
IsShort most (starts h) = Unit {0}
IsShort most ends = Unit {0}
IsShort most (leaf form h n) = Unit {0}

-- ---- by the grammar

value_ends : (most : ℕ) (n : Node) (es : List EntryNode) (w : Word) (v : Node) → HasEntries n es → EndsBy most n → value_at w es ≡ Some v → EndsBy most v
value_ends most n es w v h le is = value_has (EndsBy most) w es v (values_have (EndsBy most) h.entries (object_ends most n h.members h.object le)) is

mutual
  geometry_short : (most : ℕ) (n : Node) (ps : List Piece) → IsGeometry n ps → EndsBy most n → AllByRecursion (IsShort most) ps
  geometry_short most n ps (null_geometry a b c) le = (tt, tt)
  geometry_short most n ps (point a b) le = (omega arith, tt)
  geometry_short most n ps (multi_point a b) le = (omega arith, tt)
  geometry_short most n ps (polygon a b c d) le = (tt, tt)
  geometry_short most n ps (multi_polygon a b c d) le = (tt, tt)
  geometry_short most n ps (collection {list = list} {es = es} {items = is} {ps = qs} a b c d e) le = (
    tt,
    all_joined (IsShort most) qs (ends ∷ []) (geometries_short most is qs e (list_ends most list is d (value_ends most n es word.Geometries list a le c))) (tt, tt),
  )

  geometries_short : (most : ℕ) (ns : List Node) (ps : List Piece) → AreGeometries ns ps → AllByRecursion (EndsBy most) ns → AllByRecursion (IsShort most) ps
  geometries_short most ns ps no_geometry le = tt
  geometries_short most ns ps (geometry {n = n} {ns = others} {ps = front} {qs = back} g gs) le =
      all_joined (IsShort most) front back (geometry_short most n front g le.0) (geometries_short most others back gs le.1)

layers_short : (most : ℕ) (es : List EntryNode) (ls : List LayerText) → AreLayers es ls → AllByRecursion (λ e. EndsBy most e.value) es
    → AllByRecursion (λ l. AllByRecursion (IsShort most) l.pieces) ls
layers_short most es ls no_layer le = tt
layers_short most es ls (layer {m = m} {ms = ms} {ps = ps} {ls = others} g gs) le = (geometry_short most m.value ps g le.0, layers_short most ms others gs le.1)

outline_short : (most : ℕ) (root : Node) (o : OutlineText) → IsOutline root o → EndsBy most root → AllByRecursion (λ l. AllByRecursion (IsShort most) l.pieces) o.layers
outline_short most root o is le =
    layers_short most is.named o.layers is.layers
    (values_have (EndsBy most) is.of_objects.entries (object_ends most is.objects is.of_objects.members is.of_objects.object
    (value_ends most root is.entries word.Objects is.objects is.of_root le is.has_objects)))

pub root_ends : (bytes : List ℕ) → EndsBy (length bytes) (root_of bytes)
root_ends bytes = trimmed_ends (length bytes) (record { at_byte = 0; bytes = bytes }) (omega arith)

-- ---- as a document has them

-- a point among items has no longer text than this
abbrev pub IsShortItem : ℕ → Item → Type 0
IsShortItem most (Kept t) = length t ≤ most
IsShortItem most (Open h) = Unit {0}
IsShortItem most Close = Unit {0}
IsShortItem most (Leaf f) = Unit {0}

abbrev pub IsShortLayer : ℕ → Layer → Type 0
IsShortLayer most l = AllByRecursion (IsShortItem most) l.items

from_short : (most : ℕ) (all : List (List (List (List Position)))) (n : ℕ) (ps : List Piece) → AllByRecursion (IsShort most) ps → AllByRecursion (IsShortItem most) (items_from n all ps)
from_short most all n [] h = tt
from_short most all n (starts head ∷ ps) h = (tt, from_short most all n ps h.1)
from_short most all n (ends ∷ ps) h = (tt, from_short most all n ps h.1)
from_short most all n (leaf form head arcs ∷ ps) h = (tt, from_short most all (n + 1) ps h.1)
from_short most all n (text t ∷ ps) h = (h.0, from_short most all n ps h.1)

numbered_short : (most : ℕ) (all : List (List (List (List Position)))) (n : ℕ) (ls : List LayerText)
    → AllByRecursion (λ l. AllByRecursion (IsShort most) l.pieces) ls → AllByRecursion (IsShortLayer most) (layers_from n all ls)
numbered_short most all n [] h = tt
numbered_short most all n (l ∷ ls) h = (from_short most all n l.pieces h.0, numbered_short most all (n + length (leaves_in l.pieces)) ls h.1)

-- the texts that a map keeps
pub texts_short : (bytes : List ℕ) (d : Document) → Reads bytes d → AllByRecursion (IsShortLayer (length bytes)) d.layers
texts_short bytes d r =
    let most = length bytes in
    subst (λ (e : Document). AllByRecursion (IsShortLayer most) e.layers) (sym r.document)
    (numbered_short most r.polygons 0 r.shape.layers
    (outline_short most r.root r.shape r.topology (subst (EndsBy most) (sym (padded_root r.json)) (root_ends bytes))))
