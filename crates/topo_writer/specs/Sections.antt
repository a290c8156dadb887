-- The text of a document by its sections, in the order in which they are sent.
use Rattle.std.specs.Prelude.{◌≡◌, ◌≤◌, ℕ, List, [], ◌++◌, map, take, get_or, codes, Option}
use Rattle.std.specs.List.{flat_map}
use Rattle.grid_geometry.specs.Common.{Position}
use Rattle.ring_machine.specs.Common.{Text, Member, Layer, Document, in_layer, size, Proper, WellFormed}
use Rattle.map_frame.specs.Common.{ShownFrame, shown_frame}
use Rattle.map_text.specs.Common.{commas, further, layer_member, member_text}
use Rattle.topo_writer.specs.Items.{item_rings, written_item}
use Rattle.topo_writer.specs.Members.{further_if}
use Rattle.topo_writer.specs.Ways.{arcs_with}

-- ---- the sections

-- the begin, up to the first layer (TopoJSON 1.0, 2.1)
abbrev pub begin_text : Option Text → Text
begin_text transform =
    codes "{\"type\":\"Topology\""
    ++ (further_if (codes "\"transform\"") transform ++ codes ",\"objects\":{")

-- a layer, its rings by the indexes of the document's arcs
abbrev pub layer_text : Document → Layer → Text
layer_text d l = member_text (layer_member (in_layer (map (written_item d)) l))

-- the layers, with commas between them
abbrev pub layers_text : Document → Text
layers_text d = commas (map (layer_text d) d.layers)

-- from the last layer to the first arc
abbrev pub middle_text : Text
middle_text = codes "},\"arcs\":["

-- the end, from the last arc on
abbrev pub end_text : List Member → Text
end_text members = codes "]" ++ (further (map member_text members) ++ codes "}")

-- ---- layers, one after another

-- the layer with this number; an empty one where there is none
abbrev pub layer_at : Document → ℕ → Layer
layer_at d i = get_or d.layers i (record { name = []; items = [] })

-- the rings of a layer, feature after feature
abbrev pub layer_rings : Layer → List (List Position)
layer_rings l = item_rings l.items

-- the arcs after the first layers, so many of them
abbrev pub arcs_after : Document → ℕ → List (List Position)
arcs_after d n = arcs_with d [] (flat_map layer_rings (take n d.layers))

-- the document is that of a map, and the frame is the document's
pub record IsMapFrame (d : Document) (frame : ShownFrame) : Type 0 where
  pub shown : frame ≡ shown_frame d
  pub formed : WellFormed d
  pub proper : Proper d
  pub small : size d ≤ 4000000
