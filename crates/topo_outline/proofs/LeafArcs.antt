-- The `arcs` of each feature of an outline is a list of lists, as deep as its form asks.
use Rattle.kit_words.proofs.Common.{List, [], ◌∷◌, AllByRecursion, all_joined}
use Rattle.json_spans.specs.Common.{Node}
use Rattle.ring_machine.specs.Common.{Form}
use Rattle.topo_outline.specs.Common.{EntryNode, Piece, starts, ends, leaf, text, LayerText, OutlineText, leaves_in}
use Rattle.topo_outline.specs.Common.{leaves, IsGeometry, null_geometry, point, multi_point, polygon, multi_polygon}
use Rattle.topo_outline.specs.Common.{collection, AreGeometries, no_geometry, geometry, AreLayers, no_layer, layer}
use Rattle.topo_outline.specs.Common.{IsOutline}
use Rattle.topo_outline.proofs.Nesting.{AreArcs}

abbrev pub HasArcs : Form × Node → Type 0
HasArcs f = AreArcs f.0 f.1

abbrev IsRight : Piece → Type 0
IsRight (starts h) = Unit {0}
IsRight ends = Unit {0}
IsRight (leaf f h n) = AreArcs f n
IsRight (text t) = Unit {0}

mutual
  geometry_right : {n : Node} {ps : List Piece} → IsGeometry n ps → AllByRecursion IsRight ps
  geometry_right (null_geometry o t e) = (tt, tt)
  geometry_right (point o t) = (tt, tt)
  geometry_right (multi_point o t) = (tt, tt)
  geometry_right (polygon o t a r) = (r, tt)
  geometry_right (multi_polygon o t a r) = (r, tt)
  geometry_right (collection {ps = ps} o t a r gs) = (tt, all_joined IsRight ps (ends ∷ []) (geometries_right gs) (tt, tt))

  geometries_right : {ns : List Node} {ps : List Piece} → AreGeometries ns ps → AllByRecursion IsRight ps
  geometries_right no_geometry = tt
  geometries_right (geometry {ps = ps} {qs = qs} g gs) = all_joined IsRight ps qs (geometry_right g) (geometries_right gs)

leaves_right : (ps : List Piece) → AllByRecursion IsRight ps → AllByRecursion HasArcs (leaves_in ps)
unfolding leaves_in
leaves_right [] h = tt
leaves_right (leaf f head n ∷ ps) h = (h.0, leaves_right ps h.1)
leaves_right (_ ∷ ps) h = leaves_right ps h.1

layers_right : {es : List EntryNode} {ls : List LayerText} → AreLayers es ls → AllByRecursion HasArcs (leaves ls)
unfolding leaves
layers_right no_layer = tt
layers_right (layer {ps = ps} {ls = ls} g gs) = all_joined HasArcs (leaves_in ps) (leaves ls) (leaves_right ps (geometry_right g)) (layers_right gs)

pub leaves_have_arcs : (root : Node) (o : OutlineText) → IsOutline root o → AllByRecursion HasArcs (leaves o.layers)
leaves_have_arcs root o h = layers_right h.layers
